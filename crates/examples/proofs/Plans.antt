-- A plan that is made is sound, and m packets of it read as the message that fits them. Assumes nothing.
use Rattle.std.proofs.Common.{◌≡◌, ℕ, ◌+◌, ◌≤◌, true, false, eqb, leb, List, ◌++◌, length, is_some, Some, None, Option, refl, ap, ◌∙◌, arith}
use Rattle.std.specs.List.{AllByRecursion}
use Rattle.std.proofs.lemmas.List.{length-append}
use Rattle.std.proofs.lemmas.Bool.{and_parts, both_ways, eq-eqb, eqb-false, leb-true, leb-false}
use Rattle.checks.specs.Checks.{at, lowest, too_large}
use Rattle.checks.proofs.Lowest.{none_passes}
use Rattle.checks.proofs.Order.{first_none, mapped_none, unless_none, unless_true, skip}
use Rattle.code.specs.Making.{in_range, repeated, making_checks}
use Rattle.code.specs.Plans.{PlanView, Sound}
use Rattle.code.specs.Rows.{Packet, Explains}
use Rattle.code.specs.Settles.{Good, Different}
use Rattle.code.specs.declared.fault.PlanFault.TheVariants.{NotElement, Repeated}
use Rattle.code.proofs.Settling.{one_message}
use Rattle.field.specs.Field.{Ops, Lawful}
use Rattle.receiver.specs.Machine.{filled, settled, decided}
use Rattle.examples.specs.Cases.{plan, IsMade, holding, ReadsAs}

is_none : (x : Option ℕ) → is_some x ≡ false → x ≡ None
is_none None e = refl
is_none (Some k) e = absurd (both_ways true e refl)

range : (top n : ℕ) → in_range top n ≡ true → (1 ≤ n) × (n ≤ top)
range top n e = let h = and_parts (leb 1 n) (leb n top) e in (leb-true 1 n h.0, leb-true n top h.1)

pub made_sound : (o : Ops) → Lawful o → (ds cs : List ℕ) → IsMade o ds cs → Sound (plan o ds cs)
made_sound o lawful ds cs made =
    let nodes : List ℕ = ds ++ cs in
    let k : ℕ = length ds + length cs in
    let h = first_none (making_checks (length ds) (length cs) 1 o.size ds cs) made in
    let m = range 64 (length ds) (unless_none _ _ h.0) in
    let r = range 64 (length cs) (unless_none _ _ h.1.0) in
    let small : lowest (too_large o.size nodes) k ≡ None = mapped_none NotElement _ h.1.1.1.1.1.1.0 in
    let new : lowest (repeated nodes) k ≡ None = mapped_none Repeated _ h.1.1.1.1.1.1.1.0 in
    record {
      m_least = m.0;
      m_most = m.1;
      r_least = r.0;
      r_most = r.1;
      L_least = omega arith;
      L_most = omega arith;
      q_least = lawful.size_least;
      q_most = lawful.size_most;
      a_node_each = length-append ds cs;
      elements = λ i l. leb-false o.size (at nodes i) (none_passes (too_large o.size nodes) k i small l);
      different = λ i j l less.
          let none = is_none (lowest (λ j. eqb (at nodes j) (at nodes i)) i) (none_passes (repeated nodes) k i new l) in
          eqb-false (at nodes j) (at nodes i) (none_passes (λ j. eqb (at nodes j) (at nodes i)) i j none less);
    }

-- m different packets that M fits read as M
pub reads_as : (o : Ops) → Lawful o → (p : PlanView) → Sound p → o.size ≡ p.q → (ks : List Packet) → length ks ≡ p.m
    → AllByRecursion (Good p) ks → Different ks → settled p (holding ks) ≡ true → (M : List ℕ) → Explains o p M ks → ReadsAs o p ks M
reads_as o lawful p sound size ks many good apart full M fits = record {
  fits = fits;
  only = λ N other. one_message o lawful p sound size ks many good apart N M other fits;
  is_read = λ j old long. record {
    M = M;
    fits = λ _ _. fits;
    ruled = ap (λ x. decided x old (holding ks) (record { answer = filled; after = M; state = holding ks }))
        (skip _ _ (unless_true _ _ (eq-eqb _ _ size)) ∙ skip _ _ (unless_true _ _ (eq-eqb _ _ long)) ∙ skip _ _ (unless_true _ _ full));
  };
}
