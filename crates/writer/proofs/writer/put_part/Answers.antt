use Rattle.std.proofs.Common.{length, refl, ◌∙◌, arith}
use Rattle.std.proofs.lemmas.List.Edits.{paste_all}
use Rattle.std.proofs.lemmas.Slice.{put_mid-paste}
use Rattle.writer.proofs.writer.put_part.Goals as goal

pub returns : goal.returns
returns c =
    let part = c.args.part.now in
    put_mid-paste c.args.at _ c.args.out.now _ part (length part) c.copy_from_slice.ensures.after (omega arith) refl
    ∙ paste_all c.args.out.now c.args.at part (length part) refl
