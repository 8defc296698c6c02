use Rattle.std.proofs.Common.{◌≡◌, ◌≤◌, ◌++◌, length, take, drop, sym, ap, subst, arith, ◌∙◌, length-take, length-take-le, length-append}
use Rattle.std.proofs.lemmas.List.{take-append-le}
use Rattle.jesc_io.proofs.Reading.{HasRead, has_read_more}
use Rattle.jesc_io.proofs.whole.read_whole.Goals as goal

pub loop-buffer-preserved : goal.loop-buffer-preserved
loop-buffer-preserved g c =
    let more = has_read_more _ _ _ _ _ _ c.in-Ok-read.count c.loop-buffer.invariant.read c.in-Ok-read.ensures.change c.in-Ok-read.ensures.within in
    let within : c.in-Ok-read.count ≤ length c.read.new.into = c.in-Ok-read.ensures.within in
    let piece = take-append-le c.in-Ok-read.count c.read.new.into (drop c.min-room.result c.loop-buffer.buffer) within in
    let grown : c.append.new.self ≡ c.loop-buffer.all ++ take c.in-Ok-read.count c.read.new.into
    = c.in-Ok-append.ensures.ok ∙ ap (λ p. c.loop-buffer.all ++ p) piece in
    record {
      read = subst (λ all. HasRead (g.F.Files.told c.args.files.now) (g.F.Files.told c.read.new.self) c.args.name.now all) (sym grown) more;
      faults = c.in-Ok-read.ensures.cause.0 ∙ c.loop-buffer.invariant.faults;
      others = c.in-Ok-read.ensures.cause.1 ∙ c.loop-buffer.invariant.others;
      short = omega (
        arith,
        within,
        c.read.auto.into,
        c.min-room.ensures,
        c.len.ensures,
        c.len-in-loop-buffer.ensures,
        c.loop-buffer-test.true,
        ap length grown,
        length-append c.loop-buffer.all (take c.in-Ok-read.count c.read.new.into),
        length-take-le c.in-Ok-read.count c.read.new.into within,
        length-take c.min-room.result c.loop-buffer.buffer,
      );
    }
