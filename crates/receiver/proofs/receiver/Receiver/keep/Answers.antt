use Rattle.std.proofs.Common.{rules}
use Rattle.receiver.proofs.Fields.{count_fields}
use Rattle.receiver.proofs.Kept.{fewer, late, early}
use Rattle.receiver.proofs.receiver.Receiver.keep.Goals as goal
use Rattle.receiver.proofs.receiver.Receiver.keep.Goals.{then-not-is_settled, else-not-is_settled}

pub bounds-self-self : goal.bounds-self-self
bounds-self-self c = fewer c.args.self.now c.args.number c.args.row.now c.requires.reaches

pub invariant_of-self : goal.invariant_of-self
invariant_of-self c = elim c.if-not-is_settled.branch [
  | then-not-is_settled w ↦ rw w.self-is (
      let k = early c.args.self.now c.args.number c.args.row.now c.requires.reaches w.if-not-is_settled.ensures.counts c.requires.fits _ w.put.ensures.leaves in
      search rules)
  | else-not-is_settled w ↦ rw w.self-is (
      let k = late c.args.self.now c.args.number c.args.row.now c.requires.reaches w.if-not-is_settled.ensures.counts in
      search rules)
]

pub returns-clause-answers : goal.returns-clause-answers
returns-clause-answers c = search (rules, count_fields)

pub returns-clause-leaves : goal.returns-clause-leaves
returns-clause-leaves c = elim c.if-not-is_settled.branch [
  | then-not-is_settled w ↦ rw w.self-is (
      early c.args.self.now c.args.number c.args.row.now c.requires.reaches w.if-not-is_settled.ensures.counts c.requires.fits _ w.put.ensures.leaves).leaves
  | else-not-is_settled w ↦ rw w.self-is (
      late c.args.self.now c.args.number c.args.row.now c.requires.reaches w.if-not-is_settled.ensures.counts).leaves
]
