use Rattle.std.proofs.Common.{subst, inl, inr}
use Rattle.jesc_engine.specs.Command.{names_of}
use Rattle.jesc_engine.specs.Ends.{EndsOn}
use Rattle.jesc_engine.proofs.Endings.{says_usage, verified_safe, refused_cause}
use Rattle.jesc_engine.proofs.top.run.Goals as goal

pub returns-in-Some-clause-ends : goal.returns-in-Some-clause-ends
returns-in-Some-clause-ends g c =
    let told = g.F.Files.told c.args.files.now in
    let reads = g.F.Files.read_faults c.args.files.now in
    let reads' = g.F.Files.read_faults c.check_files.new.files in
    let out = g.O.Sink.taken c.args.out.now in
    let out' = g.O.Sink.taken c.check_files.new.out in
    let err = g.E.Sink.taken c.args.err.now in
    let err' = g.E.Sink.taken c.check_files.new.err in
    inl (
      c.in-Some.ensures.names.0,
      subst (λ names. EndsOn told names reads reads' out out' err err' c.check_files.result) c.in-Some.ensures.names.1 c.check_files.ensures.ends,
    )

pub returns-in-Some-clause-safe : goal.returns-in-Some-clause-safe
returns-in-Some-clause-safe g c = λ is.
    let told = g.F.Files.told c.args.files.now in
    let reads = g.F.Files.read_faults c.args.files.now in
    let reads' = g.F.Files.read_faults c.check_files.new.files in
    let words = c.args.words.now in
    let out = g.O.Sink.taken c.args.out.now in
    let out' = g.O.Sink.taken c.check_files.new.out in
    let err = g.E.Sink.taken c.args.err.now in
    let err' = g.E.Sink.taken c.check_files.new.err in
    verified_safe told (names_of words) reads reads' out out' err err' c.check_files.result
    (subst (λ names. EndsOn told names reads reads' out out' err err' c.check_files.result) c.in-Some.ensures.names.1 c.check_files.ensures.ends) is

pub returns-in-Some-clause-refused : goal.returns-in-Some-clause-refused
returns-in-Some-clause-refused g c = λ is.
    let told = g.F.Files.told c.args.files.now in
    let reads = g.F.Files.read_faults c.args.files.now in
    let reads' = g.F.Files.read_faults c.check_files.new.files in
    let words = c.args.words.now in
    let out = g.O.Sink.taken c.args.out.now in
    let out' = g.O.Sink.taken c.check_files.new.out in
    let err = g.E.Sink.taken c.args.err.now in
    let err' = g.E.Sink.taken c.check_files.new.err in
    refused_cause told (names_of words) reads reads' out out' err err' c.check_files.result
    (subst (λ names. EndsOn told names reads reads' out out' err err' c.check_files.result) c.in-Some.ensures.names.1 c.check_files.ensures.ends) is

pub returns-in-None-clause-ends : goal.returns-in-None-clause-ends
returns-in-None-clause-ends g c =
    let out = g.O.Sink.taken c.args.out.now in
    let before = g.E.Sink.taken c.args.err.now in
    let now = g.E.Sink.taken c.say_usage.new.err in
    inr (c.in-None.ensures.names, says_usage out before now c.ended.result c.say_usage.result c.ended.ensures c.say_usage.ensures.gains)
