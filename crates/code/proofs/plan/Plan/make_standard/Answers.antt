use Rattle.std.proofs.Common.{◌≡◌, ◌+◌, ℕ, List, length, replicate, ◌∙◌, length-append, length-drop, arith}
use Rattle.std.proofs.lemmas.List.{length-take-le}
use Rattle.code.proofs.Makes.{ranges, front_of, powers_elements, powers_apart}
use Rattle.code.proofs.plan.Plan.make_standard.Goals as goal

pub invariant_of-self : goal.invariant_of-self
invariant_of-self g c =
    let m = c.args.counts.data_count in
    let r = c.args.counts.check_count in
    let h = ranges m r c.args.counts.row_len c.in_ok-check.ensures in
    let laws = g.met.F.Field.lawful c.args.field.now in
    let low = laws.size_least in
    let high = laws.size_most in
    let o = g.F.Field.ops c.args.field.now in
    let ps = c.write_powers.new.powers in
    let zeros : List ℕ = replicate 128 0 in
    let long : length ps ≡ m + r = c.write_powers.auto.powers ∙ length-take-le (m + r) zeros (omega arith) in
    let front = front_of o c.step-step.result.0 ps zeros (m + r) c.write_powers.ensures c.write_powers.auto.powers (omega arith) in
    let elements = powers_elements laws _ (m + r) _ front _ c.size.ensures in
    let apart = powers_apart laws _ (m + r) _ front _ c.step-step.ensures.steps (omega arith) in
    record {
      some_data = omega arith;
      few_data = omega arith;
      some_checks = omega arith;
      few_checks = omega arith;
      some_symbols = omega arith;
      few_symbols = omega arith;
      least_size = omega arith;
      most_size = omega arith;
      room = simp (length-append, length-drop) (omega arith);
      elements = elements;
      apart = apart;
    }
