use Rattle.std.proofs.Common.{get_or}
use Rattle.std.proofs.lemmas.List.{get_or_default}
use Rattle.jesc_members.proofs.InheritOverrides.{compares}
use Rattle.jesc_members.proofs.inherit.is_unlike.Goals as goal

pub returns : goal.returns
returns c =
    let methods = c.args.methods.now in
    let place = c.args.above.sample in
    let x = c.index-methods-above.result in
    let sample = get_or methods place x in
    compares methods c.args.method.now sample c.args.above c.if-above.false c.requires (get_or_default methods place x sample c.requires) c.is_same_signature.result c.is_same_signature.ensures
