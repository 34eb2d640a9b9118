-- Sheets by what their buffer holds, and what each call of them answers and leaves. Assumes nothing.
--     SheetView               m, L and q of the plan that a sheet was opened for, and the content of its buffer
--     open_view, closed_view  an open or a closed sheet by its view
--     cleared p xs            a sheet that is opened for the plan p over a buffer that holds xs
--     laying s j row          what the checks of laying a row give
--     laid_on s j row         the sheet after it
--     cutting s p q n room    what the checks of cutting packet n into a buffer of that room give, over a field of q
--     Cut s p o j n old new a     what cutting answers and leaves
use Rattle.std.specs.Prelude.{◌≡◌, ℕ, ◌+◌, ◌*◌, cond, ◌&&◌, List, [], ◌∷◌, ◌++◌, length, take, drop, replicate, Option, Result, ◌==◌, nat_le, nat_lt}
use Rattle.std.specs.Option.{option_map}
use Rattle.checks.specs.Checks.{unless, first, answered, left, lowest, too_large}
use Rattle.code.specs.Plans.{PlanView}
use Rattle.code.specs.Rows.{row}
use Rattle.field.specs.Field.{Ops}
use Rattle.packet.specs.Layout.{packet_length}
use Rattle.packet.specs.Writing.{written}
use Rattle.packet.specs.declared.Job.{Job}
use Rattle.sheet.specs.declared.closed.ClosedSheet.{ClosedSheet}
use Rattle.sheet.specs.declared.fault.SheetFault.{SheetFault}
use Rattle.sheet.specs.declared.fault.SheetFault.TheVariants.{Count, OtherField, Symbol, Number}
use Rattle.sheet.specs.declared.opened.OpenSheet.{OpenSheet}

pub record SheetView : Type 0 where
  pub m : ℕ
  pub L : ℕ
  pub q : ℕ
  pub content : List ℕ

abbrev pub open_view : OpenSheet → SheetView
open_view s = record { m = s.data_count; L = s.row_len; q = s.size; content = s.buffer.now }

abbrev pub closed_view : ClosedSheet → SheetView
closed_view s = record { m = s.data_count; L = s.row_len; q = s.size; content = s.buffer.now }

-- opening sets the buffer to 0; one that is not m · L symbols stays as it is
abbrev pub cleared : PlanView → List ℕ → SheetView
cleared p xs = record {
  m = p.m;
  L = p.L;
  q = p.q;
  content = cond (length xs == p.m * p.L) (replicate (length xs) 0) xs;
}

abbrev pub buffer_check : SheetView → Option SheetFault
buffer_check s = unless (length s.content == s.m * s.L) (Count (s.m * s.L))

abbrev pub laying : SheetView → ℕ → List ℕ → Option SheetFault
laying s j row = first (
    buffer_check s
    ∷ unless (length row == s.L) (Count s.L)
    ∷ unless (nat_lt j s.m) (Number j)
    ∷ option_map Symbol (lowest (too_large s.q row) (length row))
    ∷ []
    )

-- row j is replaced
abbrev pub with_row : SheetView → ℕ → List ℕ → List ℕ
with_row s j row = take (j * s.L) s.content ++ (row ++ drop (j * s.L + s.L) s.content)

abbrev pub laid_on : SheetView → ℕ → List ℕ → SheetView
laid_on s j row = record { m = s.m; L = s.L; q = s.q; content = left (laying s j row) s.content (with_row s j row) }

abbrev pub cutting : SheetView → PlanView → ℕ → ℕ → ℕ → Option SheetFault
cutting s p q n room = first (
    unless (q == s.q && p.q == s.q && p.m == s.m && p.L == s.L) (OtherField s.q)
    ∷ buffer_check s
    ∷ unless (nat_lt n (p.m + p.r)) (Number n)
    ∷ unless (nat_le (packet_length p) room) (Count (packet_length p))
    ∷ []
    )

-- packet n of the message on the sheet is written in front, with this job's header, and its length is answered
pub record Cut (s : SheetView) (p : PlanView) (o : Ops) (j : Job) (n : ℕ) (old new : List ℕ) (a : Result ℕ SheetFault) : Type 0 where
  pub answers : a ≡ answered (cutting s p o.size n (length old)) (packet_length p)
  pub leaves : new ≡ left (cutting s p o.size n (length old)) old (written p j n (row o p s.content n) old)
