use Rattle.std.proofs.Common.{◌+◌, ◌-◌, leb, sym, arith, rules}
use Rattle.std.proofs.lemmas.List.Sorted.{IsPartitionPoint-from_clause}
use Rattle.jesc_classes.proofs.Starts.{parted, line_found}
use Rattle.jesc_classes.proofs.place.place_at.Goals as goal

pub overflow_cast-result : goal.overflow_cast-result
overflow_cast-result c =
    let at = IsPartitionPoint-from_clause (λ start. leb start c.args.span.from) _ _ c.partition_point-line.ensures.partitioned (parted c.args.lines.now c.args.span.from c.requires.lines) (λ a r q k. search rules) in
    let line = line_found _ _ _ c.requires.lines c.partition_point-line.ensures.bound at in
    omega (arith, line.few, c.requires.within)

pub overflow_sub-result : goal.overflow_sub-result
overflow_sub-result c =
    let at = IsPartitionPoint-from_clause (λ start. leb start c.args.span.from) _ _ c.partition_point-line.ensures.partitioned (parted c.args.lines.now c.args.span.from c.requires.lines) (λ a r q k. search rules) in
    let line = line_found _ _ _ c.requires.lines c.partition_point-line.ensures.bound at in
    line.some

pub overflow_sub-result-2 : goal.overflow_sub-result-2
overflow_sub-result-2 c =
    let at = IsPartitionPoint-from_clause (λ start. leb start c.args.span.from) _ _ c.partition_point-line.ensures.partitioned (parted c.args.lines.now c.args.span.from c.requires.lines) (λ a r q k. search rules) in
    let line = line_found _ _ _ c.requires.lines c.partition_point-line.ensures.bound at in
    line.start

pub returns : goal.returns
returns c =
    let at = IsPartitionPoint-from_clause (λ start. leb start c.args.span.from) _ _ c.partition_point-line.ensures.partitioned (parted c.args.lines.now c.args.span.from c.requires.lines) (λ a r q k. search rules) in
    let line = line_found _ _ _ c.requires.lines c.partition_point-line.ensures.bound at in
    λ i. record { file = c.args.span.file; line = sym line.number i; col = c.args.span.from - sym line.starts i + 1 }
