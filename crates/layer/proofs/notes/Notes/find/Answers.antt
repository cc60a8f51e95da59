use Rattle.std.proofs.Common.{◌≡◌, length, ap, ◌∙◌, rules, tests}
use Rattle.std.specs.List.{position_or_len}
use Rattle.std.proofs.lemmas.Iterator.{YieldsList-from_slice}
use Rattle.std.proofs.lemmas.Iterator.Search.{position_from_yields_List}
use Rattle.layer.specs.Hints.{place_of}
use Rattle.layer.proofs.Entries.{first_place, takes}
use Rattle.layer.proofs.notes.Notes.find.Goals as goal

pub returns : goal.returns
returns c =
    let entries = c.self.inside.entries in
    let found = position_from_yields_List (takes c.args.guess) _ _ _ c.position.ensures.ran (YieldsList-from_slice entries (search rules)) (λ x b q k. search (rules, tests)) in
    let place = ap (position_or_len (takes c.args.guess)) c.self.invariant ∙ first_place c.args.guess _ _ ∙ ap (place_of c.args.guess) c.self.view_is in
    let long : length entries ≡ 8 = search rules in
    cc
