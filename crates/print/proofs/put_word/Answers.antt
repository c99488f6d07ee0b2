-- The whole of the word is copied.
use mathlib.Core.Path.{◌∙◌, ap, refl}
use Rattle.buffer.specs.Slice.{put}
use Rattle.print.proofs.PrintLaws.{part-whole}
use Rattle.print.proofs.put_word.Goals as goal

pub returns : goal.returns
returns c =
    (c.copy.ensures ∙ ap (put c.args.out.now c.args.at) (part-whole c.args.word.now), refl)
