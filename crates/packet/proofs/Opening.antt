-- What is opened is what was written. Assumes nothing.
use Rattle.std.proofs.Common.{◌≡◌, ℕ, ◌+◌, ◌<◌, ◌≤◌, List, length, None, sym, ap, ◌∙◌, arith}
use Rattle.std.specs.List.{AllByRecursion}
use Rattle.std.proofs.lemmas.Bool.{eq-eqb, eqb-true, le-leb, and_parts, and_from}
use Rattle.checks.proofs.Order.{unless_none, unless_true, first_none, none_first}
use Rattle.code.specs.Plans.{PlanView}
use Rattle.packet.specs.Bytes.{word}
use Rattle.packet.specs.Layout.{row_count, laid, Headed}
use Rattle.packet.specs.Opening.{row_told, opening_checks, opening}
use Rattle.packet.specs.Writing.{Reopens}
use Rattle.packet.specs.declared.Job.{Job}
use Rattle.packet.proofs.Reading.{laid-headed, laid-number, laid-row}

-- bytes that bear a job's header are opened
pub headed-opens : (p : PlanView) (j : Job) (bs : List ℕ) → Headed p j bs → opening bs ≡ None
headed-opens p j bs k =
    let long = eq-eqb (length bs) (20 + word bs 18) (omega (arith, k.long, k.count)) in
    let told : row_told bs ≡ row_count p = cc (k.L, k.q) in
    let letters = and_from _ _ (eq-eqb _ _ k.mark_0) (eq-eqb _ _ k.mark_1) in
    let offset = eq-eqb _ _ k.offset in
    let count = eq-eqb _ _ (k.count ∙ sym told) in
    none_first (opening_checks bs) (
      unless_true _ _ (le-leb 20 (length bs) (omega (arith, k.long))),
      (unless_true _ _ letters, (unless_true _ _ offset, (unless_true _ _ count, (unless_true _ _ long, tt)))),
    )

-- bytes that are opened and agree with plan and job bear the job's header
pub opens-headed : (p : PlanView) (j : Job) (bs : List ℕ) → opening bs ≡ None
    → word bs 4 ≡ p.m → word bs 6 ≡ p.r → word bs 8 ≡ p.L → word bs 10 + 1 ≡ p.q
    → word bs 12 ≡ j.number → word bs 14 ≡ j.length → Headed p j bs
opens-headed p j bs o m r l q number len =
    let told : row_told bs ≡ row_count p = cc (l, q) in
    let h = first_none (opening_checks bs) o in
    let letters = and_parts _ _ (unless_none _ _ h.1.0) in
    let count = eqb-true _ _ (unless_none _ _ h.1.1.1.0) ∙ told in
    record {
      mark_0 = eqb-true _ _ letters.0;
      mark_1 = eqb-true _ _ letters.1;
      m = m;
      r = r;
      L = l;
      q = q;
      number = number;
      len = len;
      offset = eqb-true _ _ (unless_none _ _ h.1.1.0);
      count = count;
      long = eqb-true _ _ (unless_none _ _ h.1.1.1.1.0) ∙ ap (λ n. 20 + n) count;
    }

-- a packet whose row is of elements is opened as what it is
pub laid-reopens : (p : PlanView) (j : Job) (n : ℕ) (ys : List ℕ) → 1 ≤ p.q → length ys ≡ p.L → AllByRecursion (λ y. y < p.q) ys
    → Reopens p j n ys (laid p j n ys)
laid-reopens p j n ys some l elements =
    let headed = laid-headed p j n ys some l in
    record {
      opens = headed-opens p j (laid p j n ys) headed;
      kind = rw (laid-number p j n ys, headed.m);
      headed = headed;
      number = laid-number p j n ys;
      row = laid-row p j n ys elements;
    }
