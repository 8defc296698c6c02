use Rattle.jesc_classes.proofs.Ranked.{spared}
use Rattle.jesc_classes.proofs.cycle.is_on_cycle.Goals as goal

pub returns-then-ranks-above : goal.returns-then-ranks-above
returns-then-ranks-above c = spared c.args.graph.now c.args.ranks.now c.args.class c.args.above c.requires.within c.requires.ranks c.requires.above c.if-ranks-above.true
