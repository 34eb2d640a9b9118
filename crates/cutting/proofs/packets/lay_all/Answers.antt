use Rattle.std.proofs.Common.{◌≡◌, ◌*◌, rules, drop, zero-mul, refl, Ok, sym, ap, ◌∙◌, ap₂, arith}
use Rattle.checks.specs.Checks.{answered}
use Rattle.code.specs.Plans.{view}
use Rattle.sheet.specs.Sheets.{open_view, laying, laid_on}
use Rattle.cutting.proofs.Laying.{partly, partly_more, partly-all, lays, chunk, all_taken}
use Rattle.cutting.proofs.packets.lay_all.Goals as goal

pub loop-number-init : goal.loop-number-init
loop-number-init c =
    let p = view c.args.plan.now in
    let M = c.args.message.now in
    let it = c.into_iter-number-iterator.ensures.into_iter_gives in
    let zero : c.into_iter-number-iterator.result.count ≡ 0 = ap (λ i. i.count) it ∙ c.enumerate-number-items.ensures.count in
    let source = ap (λ i. i.iter) it ∙ c.enumerate-number-items.ensures.source in
    let size = ap (λ i. i.size) source ∙ c.chunks.ensures.size ∙ c.row_len.ensures.answers in
    let start : open_view c.open-sheet.result ≡ partly p M 0 = search rules in
    (search rules, search rules, omega arith, size, ap (λ i. i.rest.now) source ∙ c.chunks.ensures.rest ∙ rw (zero, zero-mul) refl, start ∙ ap (partly p M) (sym zero))

pub unwrap-requires : goal.unwrap-requires
unwrap-requires c =
    let p = view c.args.plan.now in
    let M = c.args.message.now in
    let i = c.loop-number.invariant in
    let s = c.in-Some.ensures.steps in
    let k = c.loop-number.number-iterator.count in
    let t = chunk p M k _ c.in-Some.row.now _ c.requires.long i.4 s.0.1.0 (rw i.3 at s.0.1.1) s.0.1.2 in
    let none = lays p M k c.requires.long c.requires.element t.inside c.in-Some.row.now t.here in
    let done : c.lay.result ≡ Ok tt =
    c.lay.ensures.answers ∙ ap₂ (λ v n. answered (laying v n c.in-Some.row.now) tt) i.5 s.1 ∙ ap (λ o. answered o tt) none in
    rw done refl

pub loop-number-preserved : goal.loop-number-preserved
loop-number-preserved c =
    let p = view c.args.plan.now in
    let M = c.args.message.now in
    let i = c.loop-number.invariant in
    let s = c.in-Some.ensures.steps in
    let k = c.loop-number.number-iterator.count in
    let t = chunk p M k _ c.in-Some.row.now _ c.requires.long i.4 s.0.1.0 (rw i.3 at s.0.1.1) s.0.1.2 in (
      search rules,
      search rules,
      omega (arith, t.inside),
      s.0.0 ∙ i.3,
      t.behind ∙ ap (λ n. drop (n * p.L) M) (sym s.2),
      c.lay.ensures.leaves ∙ ap (λ n. laid_on (open_view c.loop-number.sheet) n c.in-Some.row.now) s.1
          ∙ partly_more p M k c.requires.long c.requires.element t.inside _ _ i.5 t.here ∙ ap (partly p M) (sym s.2),
    )

pub returns : goal.returns
returns c =
    let p = view c.args.plan.now in
    let M = c.args.message.now in
    let i = c.loop-number.invariant in
    let s = c.in-None.ensures.steps in
    let k = c.loop-number.number-iterator.count in
    let last = all_taken p M k c.requires.long i.2 c.args.plan.now.some_symbols (rw i.4 at s.0.1.0) in
    c.close.ensures.leaves ∙ i.5 ∙ ap (partly p M) last ∙ partly-all p M c.requires.long
