use Rattle.std.proofs.Common.{sym, refl, ◌∙◌}
use Rattle.layer.specs.Laws.BlurLaws.{blur_is, same_blur}
use Rattle.layer.proofs.blur.Blur.new.Goals as goal

pub returns-then-fits : goal.returns-then-fits
returns-then-fits g c =
    let fits = sym c.if-fits.ensures in
    let below = g.R.AnswerRule.meaning c.args.below in
    (fits, same_blur below c.padded.result c.args.bytes.now c.args.answers c.padded.ensures ∙ blur_is below (g.R.AnswerRule.lawful c.args.below) _ _ fits, refl)
