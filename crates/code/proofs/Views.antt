-- What is known of every plan by its view. Assumes nothing.
use Rattle.std.proofs.Common.{◌≡◌, ℕ, ◌+◌, ◌<◌, sym, ◌∙◌, arith}
use Rattle.std.proofs.lemmas.List.{get_or-take, length-take-le}
use Rattle.checks.specs.Checks.{at}
use Rattle.field.specs.Field.{Ops, inverse_of}
use Rattle.field.specs.Rows.{numbers, minus}
use Rattle.code.specs.Plans.{view, Sound}
use Rattle.code.specs.declared.plan.Plan.{Plan}

module _ (p : Plan) where
  pub view_node : (i : ℕ) → i < (view p).m + (view p).r → at (view p).nodes i ≡ at p.nodes i
  view_node i h = get_or-take ((view p).m + (view p).r) p.nodes i 0 h

  -- every plan is sound
  pub sound_of : Sound (view p)
  sound_of = record {
    m_least = p.some_data;
    m_most = p.few_data;
    r_least = p.some_checks;
    r_most = p.few_checks;
    L_least = p.some_symbols;
    L_most = p.few_symbols;
    q_least = p.least_size;
    q_most = p.most_size;
    a_node_each = length-take-le (p.counts.data_count + p.counts.check_count) p.nodes (omega (arith, p.room, p.few_data, p.few_checks));
    elements = λ i h. rw (view_node i h) (p.elements i h);
    different = λ i j h l same. p.apart i j h l (sym (view_node j (omega arith)) ∙ same ∙ view_node i h);
  }

  -- a factor as it is computed
  pub factor_is : (o : Ops) (n j : ℕ) {f d : ℕ} → n < (view p).m + (view p).r → j < (view p).m + (view p).r
      → f ≡ inverse_of o d → d ≡ minus (numbers o) (at p.nodes n) (at p.nodes j)
      → f ≡ inverse_of o (minus (numbers o) (at (view p).nodes n) (at (view p).nodes j))
  factor_is o n j hn hj inverse difference = rw (view_node n hn, view_node j hj) (cc)
