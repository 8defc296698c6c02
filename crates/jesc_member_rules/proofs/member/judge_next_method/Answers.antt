use Rattle.std.proofs.Common.{[]}
use Rattle.jesc_members.specs.Methods.{methods_of}
use Rattle.jesc_members.specs.Seen.{seen_method}
use Rattle.jesc_member_rules.proofs.JudgingMet.{begins_at}
use Rattle.jesc_member_rules.proofs.member.judge_next_method.Goals as goal

pub judge_method-requires-clause-given : goal.judge_method-requires-clause-given
judge_method-requires-clause-given c = begins_at (methods_of c.args.known.now) c.args.met.now.methods (seen_method c.args.method.now) [] c.requires.given
