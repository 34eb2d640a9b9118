-- What the cutter's input asks for. Assumes nothing.
use Rattle.std.specs.Prelude.{ℕ, cond, List, [], ◌∷◌, length, drop, Ok, Err, Option, Result, ◌==◌, nat_le}
use Rattle.checks.specs.Checks.{at, unless, first}
use Rattle.checks.specs.declared.fault.Fault.{Fault}
use Rattle.checks.specs.declared.fault.Layer.TheVariants.{Input}
use Rattle.cutting.specs.declared.request.FieldChoice.{FieldChoice}
use Rattle.cutting.specs.declared.request.FieldChoice.TheVariants.{Byte, Nibble, Prime}
use Rattle.cutting.specs.declared.request.InputFault.{InputFault}
use Rattle.cutting.specs.declared.request.InputFault.TheVariants.{Length, Field}
use Rattle.cutting.specs.declared.request.Request.{Request}

-- layer, number and place of each fault of the input
abbrev pub input_named : InputFault → Fault
input_named (Length k) = record { layer = Input; number = 9; place = k }
input_named Field = record { layer = Input; number = 10; place = 0 }

-- the field byte stands for a field
abbrev pub field_check : ℕ → Option InputFault
field_check k = unless (nat_le k 2) Field

-- the checks of an input, in their order
abbrev pub input_checked : List ℕ → Option InputFault
input_checked bs = first (
    unless (nat_le 4 (length bs)) (Length (length bs))
    ∷ field_check (at bs 0)
    ∷ []
    )

-- what is asked for: the field, m, r and L, and the job
pub record RequestView : Type 0 where
  pub choice : FieldChoice
  pub m : ℕ
  pub r : ℕ
  pub L : ℕ
  pub job : List ℕ

-- 0 is the byte field, 1 the nibble field, 2 the prime field
abbrev pub chosen : ℕ → FieldChoice
chosen k = cond (k == 0) Byte (cond (k == 1) Nibble Prime)

abbrev pub requested : List ℕ → RequestView
requested bs = record { choice = chosen (at bs 0); m = at bs 1; r = at bs 2; L = at bs 3; job = drop 4 bs }

-- a request without its reference
abbrev pub request_view : Result Request InputFault → Result RequestView InputFault
request_view (Ok q) = Ok (record { choice = q.field; m = q.counts.data_count; r = q.counts.check_count; L = q.counts.row_len; job = q.job.now })
request_view (Err e) = Err e
