use Rattle.std.proofs.Common.{◌+◌, refl, ap, subst, arith}
use Rattle.jesc_engine.specs.Sources.{HasUnit}
use Rattle.jesc_engine.proofs.sources.read_next.Goals as goal

pub returns-clause-more : goal.returns-clause-more
returns-clause-more g c =
    let before = c.args.sources.now in
    let tokens = c.in_ok-tokens.tokens in
    record {
      source = _;
      files = c.in_ok-push.ensures.ok;
      bytes = ap (λ n. before.bytes + n) c.len.ensures;
      named = refl;
      unit = subst (λ n. HasUnit (g.F.Files.told c.args.files.now) n c.args.name.now tokens) c.len-number.ensures c.in_ok-tokens.ensures.unit;
      small = omega (arith, c.in_ok-tokens.ensures.small, c.len.ensures);
    }
