-- How a printed figure and a computed one compare, and what the report counts. Assumes nothing.
use Rattle.std.specs.Prelude.{ℕ, ◌+◌, ◌-◌, ◌^◌, min, Bool, cond}
use Rattle.figures.specs.declared.report.Tally.{Tally}
use Rattle.figures.specs.declared.report.Verdict.{Verdict}
use Rattle.figures.specs.declared.report.Verdict.TheVariants.{Agrees, Differs}

abbrev pub verdict : Bool → Verdict
verdict same = cond same Agrees Differs

-- one more, up to the most that is counted
abbrev pub one_more : ℕ → ℕ
one_more n = min (n + 1) (2 ^ 32 - 1)

abbrev pub counted : Tally → Verdict → Tally
counted tally Agrees = record { agree = one_more tally.agree; differ = tally.differ }
counted tally Differs = record { agree = tally.agree; differ = one_more tally.differ }
