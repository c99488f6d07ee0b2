-- The numbers read are those of the lead.
use mathlib.Core.Path.{ap, ◌∙◌}
use Rattle.buffer.specs.Slice.{put}
use Rattle.record.specs.Kind.{kind_number}
use Rattle.translator.proofs.TranslationHeadsLaws.{lead-reads}
use Rattle.translator.proofs.write_lead.Goals as goal

pub returns : goal.returns
returns c =
    let a = c.args in
    c.put_lead.ensures ∙ ap (put a.out.now a.o) (lead-reads a.src.now a.at (kind_number a.kind) a.n _ _ _ c.get_u32-x.ensures c.atom_kind-leaf.ensures c.get_u32-v.ensures)
