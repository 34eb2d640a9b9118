use Rattle.std.proofs.Common.{◌≡◌, ◌*◌, ◌<◌, length, sym, refl, ap, ◌∙◌, arith}
use Rattle.checks.specs.Checks.{answered}
use Rattle.sheet.specs.Sheets.{open_view}
use Rattle.sheet.proofs.Laying.{row_within, laying_none, laid-row}
use Rattle.sheet.proofs.opened.OpenSheet.lay.Goals as goal

pub slice_bounds-copy_from_slice-end : goal.slice_bounds-copy_from_slice-end
slice_bounds-copy_from_slice-end c =
    let s = c.args.self.now in
    let all : length s.buffer.now ≡ s.data_count * c.from-len.result = c.if-self-wanted.false ∙ c.message_len-wanted.ensures ∙ ap (λ n. s.data_count * n) (sym c.from-len.ensures) in
    omega (arith, row_within c.args.number s.data_count c.from-len.result (omega arith))

pub returns : goal.returns
returns c =
    let s = c.args.self.now in
    let all : length s.buffer.now ≡ s.data_count * s.row_len = c.if-self-wanted.false ∙ c.message_len-wanted.ensures in
    let long : length c.args.row.now ≡ s.row_len = omega arith in
    let inside : c.args.number < s.data_count = omega arith in
    let small = sym c.in_default.ensures in
    let none = laying_none (open_view s) c.args.number c.args.row.now all long inside small in
    let content = laid-row (open_view s) c.args.number c.args.row.now all long inside small _ c.from-len.result _ refl c.from-len.ensures c.copy_from_slice.ensures.after in
    record {
      answers = sym (ap (λ o. answered o tt) none);
      leaves = ap (λ xs. record { m = s.data_count; L = s.row_len; q = s.size; content = xs }) content;
      named = refl;
    }
