use Rattle.jesc_tree.specs.Subtypes.{Fits}
use Rattle.jesc_operands.specs.Deciding as deciding
use Rattle.jesc_operands.specs.laws.Subtypes.{fits_exactly}
use Rattle.jesc_operands.proofs.Answering.{same_ok}
use Rattle.jesc_operands.proofs.subtypes.fits.Goals as goal

pub returns : goal.returns
returns c =
    let p = c.args.program.now in
    let s = c.args.from in
    let t = c.args.to in
    same_ok (Fits p.classes s t) (deciding.fits p.classes s t) (fits_exactly p.classes p.fields p.methods c.requires.lawful s t c.requires.from) c.fits.result c.fits.ensures
