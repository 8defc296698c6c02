use Rattle.std.proofs.Common.{take, get_or, sym, subst}
use Rattle.std.proofs.lemmas.List.{take_more}
use Rattle.std.proofs.lemmas.List.Elements.{All-get_or}
use Rattle.jesc_arithmetic.specs.declared.operation.Operation.{Operation as Numbered}
use Rattle.jesc_arithmetic.specs.declared.operation.Operation.TheVariants.{Product}
use Rattle.jesc_arithmetic.specs.Walks.{IsOverTerms}
use Rattle.jesc_arithmetic.proofs.Saying.{HavePutAll, one_more_operation}
use Rattle.jesc_arithmetic.proofs.arithmetic.put_all.Goals as goal

pub loop-operation-preserved : goal.loop-operation-preserved
loop-operation-preserved c =
    let old = c.args.terms.now in
    let mid = c.loop-operation.terms in
    let new = c.put_facts.new.terms in
    let os = c.args.operations.now in
    let k = c.loop-operation.operation-index in
    let any : Numbered = Product (record { 0 = 0 }) (record { 0 = 0 }) in
    subst (HavePutAll old new c.put_facts.new.facts) (sym (take_more os k any c.loop-operation-test.true))
    (one_more_operation old mid new c.loop-operation.facts c.put_facts.new.facts (take k os) (get_or os k any) (All-get_or (IsOverTerms old) os k any c.loop-operation-test.true c.requires) c.loop-operation.invariant
    c.in_ok-put_facts.ensures.keeps c.in_ok-put_facts.ensures.put)
