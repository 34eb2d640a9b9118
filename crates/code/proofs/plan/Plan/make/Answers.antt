use Rattle.std.proofs.Common.{◌+◌, arith, rules}
use Rattle.code.proofs.Makes.{ranges, joined_long, elements_from, apart_from}
use Rattle.code.proofs.plan.Plan.make.Goals as goal

pub overflow_add-count : goal.overflow_add-count
overflow_add-count g c = let h = ranges c.args.counts.data_count c.args.counts.check_count c.args.counts.row_len c.in_ok-check.ensures in omega arith

pub invariant_of-self : goal.invariant_of-self
invariant_of-self g c =
    let m = c.args.counts.data_count in
    let r = c.args.counts.check_count in
    let h = ranges m r c.args.counts.row_len c.in_ok-check.ensures in
    let low = (g.met.F.Field.lawful c.args.field.now).size_least in
    let high = (g.met.F.Field.lawful c.args.field.now).size_most in
    let all = c.joined-nodes.result in
    let room = c.joined-nodes.ensures.room in
    let long = joined_long m r _ _ all c.if-data_nodes-counts.false c.if-check_nodes-counts.false c.joined-nodes.ensures.answers in
    let elements = elements_from (m + r) all long c.size-size.result (search rules) in
    let apart = apart_from (m + r) all long (search rules) in
    record {
      some_data = omega arith;
      few_data = omega arith;
      some_checks = omega arith;
      few_checks = omega arith;
      some_symbols = omega arith;
      few_symbols = omega arith;
      least_size = omega arith;
      most_size = omega arith;
      room = room;
      elements = elements;
      apart = apart;
    }
