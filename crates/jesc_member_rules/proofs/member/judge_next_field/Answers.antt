use Rattle.std.proofs.Common.{[]}
use Rattle.jesc_members.specs.Fields.{fields_of}
use Rattle.jesc_members.specs.Seen.{seen_field}
use Rattle.jesc_member_rules.proofs.JudgingMet.{begins_at}
use Rattle.jesc_member_rules.proofs.member.judge_next_field.Goals as goal

pub judge_field-requires-clause-given : goal.judge_field-requires-clause-given
judge_field-requires-clause-given c = begins_at (fields_of c.args.known.now) c.args.met.now.fields (seen_field c.args.field.now) [] c.requires.given
