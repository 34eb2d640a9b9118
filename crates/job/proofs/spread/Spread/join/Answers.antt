use Rattle.std.proofs.Common.{rules, ◌≡◌, ◌*◌, ◌+◌, ◌^◌, ◌<◌, map, length, refl, ap, ◌∙◌, arith}
use Rattle.std.specs.Int.Digits.{number_from_digits}
use Rattle.std.proofs.lemmas.Iterator.{YieldsList-from_slice}
use Rattle.std.proofs.lemmas.Iterator.Consumers.{YieldsList-turn, YieldsList-so_far, fold_from_yields_List}
use Rattle.std.proofs.lemmas.Fn.{serves_by}
use Rattle.std.proofs.lemmas.List.{map_push, get_or_read}
use Rattle.std.proofs.lemmas.Int.Digits.{number_push, number_lt}
use Rattle.job.proofs.Digits.{number-front}
use Rattle.job.proofs.spread.Spread.join.Goals as goal

-- the value is the number that the symbols so far write, which the next symbol takes no further than the whole
pub fold-value-requires-clause-callable : goal.fold-value-requires-clause-callable
fold-value-requires-clause-callable c =
    let limit = c.args.self.limit in
    let all = c.args.symbols.now in
    let whole : number_from_digits limit all < 256 = rw (c.requires.fits, c.args.self.whole) at (number_lt limit all c.requires.small) in
    serves_by _ (λ xs q. (q.0.0.now ≡ limit) × (q.1 ≡ number_from_digits limit (map (λ x. x.now) xs)))
    (λ xs q x v j r.
    let called : (v.0.0.now ≡ q.0.0.now) × (v.1 ≡ q.1 * q.0.0.now + x.now) = search rules in
    (called.0 ∙ j.0, rw (map_push, number_push, ← j.1, ← j.0) called.1)) _ _ _ _ (refl, refl)
    (λ xs t q x u y e j.
    let road = YieldsList-from_slice all cc in
    let turn = YieldsList-turn road xs t y _ u x refl e in
    let front = number-front limit q.1 all (length xs) (j.1 ∙ ap (number_from_digits limit) (YieldsList-so_far road xs t y)) (omega arith) turn.0 in
    let small : q.1 * q.0.0.now + x.now < 2 ^ 32 = rw j.0 (omega (arith, front, whole, get_or_read all (length xs) x.now turn.0 turn.1 0)) in
    search rules)

pub returns : goal.returns
returns c =
    fold_from_yields_List _ (λ n d. n * c.args.self.limit + d) 0 c.fold-value.result c.fold-value.ensures.ran (YieldsList-from_slice c.args.symbols.now cc) (λ a x b q k. search rules)

pub overflow_cast-result : goal.overflow_cast-result
overflow_cast-result c =
    let whole : number_from_digits c.args.self.limit c.args.symbols.now < 256 = rw (c.requires.fits, c.args.self.whole) at (number_lt _ _ c.requires.small) in
    let value : c.fold-value.result ≡ number_from_digits c.args.self.limit c.args.symbols.now =
    fold_from_yields_List _ (λ n d. n * c.args.self.limit + d) 0 c.fold-value.result c.fold-value.ensures.ran (YieldsList-from_slice c.args.symbols.now cc) (λ a x b q k. search rules) in
    search rules
