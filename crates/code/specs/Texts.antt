-- Counts and plans in output. Assumes nothing.
use Rattle.std.specs.Prelude.{ℕ, List, ◌++◌, codes, decimal}
use Rattle.code.specs.Plans.{PlanView}

-- m data packets and r check packets of L symbols, in decimal
abbrev pub counts_text : ℕ → ℕ → ℕ → List ℕ
counts_text m r L =
    decimal m ++ (codes " data packets and " ++ (decimal r ++ (codes " check packets of " ++ (decimal L ++ codes " symbols"))))

-- and over the field of which size
abbrev pub sized_text : ℕ → ℕ → ℕ → ℕ → List ℕ
sized_text m r L q = counts_text m r L ++ (codes ", over the field of " ++ decimal q)

abbrev pub plan_text : PlanView → List ℕ
plan_text p = sized_text p.m p.r p.L p.q
