use Rattle.jesc_linear.proofs.entry.put.Goals as goal

pub returns-then-is_empty-clause-course : goal.returns-then-is_empty-clause-course
returns-then-is_empty-clause-course c = c.put_constant.ensures.course c.args.number
