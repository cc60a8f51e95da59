use Rattle.std.proofs.Common.{ap, ◌∙◌}
use Rattle.rule.specs.Coins.{pan_digit}
use Rattle.rule.proofs.Pans.{heavy_down, light_down}
use Rattle.rule.proofs.set.Set.weigh.Goals as goal

pub returns-then-code-eq0 : goal.returns-then-code-eq0
returns-then-code-eq0 c = c.into.ensures ∙ heavy_down _ _ _ c.requires.0 c.requires.1 _ c.pan-own.ensures c.if-code-eq0.true

pub returns-else-code-eq0 : goal.returns-else-code-eq0
returns-else-code-eq0 c =
    c.into-else-code-eq0.ensures ∙ ap pan_digit c.opposite.ensures
    ∙ light_down _ _ _ c.requires.0 c.requires.1 _ c.pan-own.ensures c.if-code-eq0.false
