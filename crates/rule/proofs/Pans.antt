-- Which pan goes down under a code. Assumes nothing.
use Rattle.std.proofs.Common.{◌≡◌, ℕ, zero, suc, ◌*◌, ◌/◌, ◌%◌, ◌<◌, true, slice_index, ◌≢◌, refl, arith}
use Rattle.rule.specs.declared.set.Pan.{Pan}
use Rattle.rule.specs.declared.set.Pan.TheVariants.{Aside, Left, Right}
use Rattle.rule.specs.Coins.{is_weighing, weighed, pan_digit, pan_of, opposite}
use Rattle.rule.specs.Digits.{digits}
use Rattle.rule.specs.Laws.CoinLaws.{heavy_code, light_aside, light_weighed}

-- a digit to base three is the digit of the place that it stands for
pub digit_of_pan : (d : ℕ) → d < 3 → pan_digit (pan_of d) ≡ d
digit_of_pan zero h = refl
digit_of_pan (suc zero) h = refl
digit_of_pan (suc (suc zero)) h = refl
digit_of_pan (suc (suc (suc d))) h = absurd (omega arith)

module _ (n code g : ℕ) (low : code < 2 * n) (w : is_weighing n g ≡ true) where
  pub heavy_down : (pan : Pan) → pan_digit pan ≡ slice_index (digits n 3 g) (code / 2) → code % 2 ≡ 0 → pan_digit pan ≡ weighed n code g
  heavy_down Aside at even = heavy_code n code g 0 low w at (omega arith) even
  heavy_down Left at even = heavy_code n code g 1 low w at (omega arith) even
  heavy_down Right at even = heavy_code n code g 2 low w at (omega arith) even

  pub light_down : (pan : Pan) → pan_digit pan ≡ slice_index (digits n 3 g) (code / 2) → (code % 2 ≢ 0) → pan_digit (opposite pan) ≡ weighed n code g
  light_down Aside at odd = light_aside n code g 0 low w at odd refl
  light_down Left at odd = light_weighed n code g 1 low w at (omega arith) odd (omega arith)
  light_down Right at odd = light_weighed n code g 2 low w at (omega arith) odd (omega arith)
