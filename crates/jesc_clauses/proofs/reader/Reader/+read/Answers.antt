use Rattle.std.proofs.Common.{[], ◌∷◌, take, get_or, sym, subst}
use Rattle.std.proofs.lemmas.List.{take_more, take_all}
use Rattle.jesc_clauses.specs.Readers.{HaveSums}
use Rattle.jesc_clauses.proofs.Stepping.{HaveRead, one_more_read, read_after}
use Rattle.jesc_clauses.proofs.Wide.{on_ok}
use Rattle.jesc_clauses.proofs.reader.Reader.+read.Goals as goal

pub loop-arg-preserved : goal.loop-arg-preserved
loop-arg-preserved t c =
    let table = c.args.terms.now in
    let ids = take c.in-App.arity (c.in-App.a ∷ c.in-App.b ∷ c.in-App.c ∷ []) in
    let k = c.loop-arg.arg-index in
    subst (HaveRead table c.args.self.now.sums c.read.new.self.sums c.args.self.now.opaques c.read.new.self.opaques) (sym (take_more ids k (record { 0 = 0 }) c.loop-arg-test.true))
    (one_more_read table c.args.self.now.sums c.loop-arg.self.sums c.read.new.self.sums c.args.self.now.opaques c.loop-arg.self.opaques c.read.new.self.opaques (take k ids) (get_or ids k (record { 0 = 0 })) c.loop-arg.invariant c.in_ok-read-in-App.ensures.read)

pub apply-requires-clause-args : goal.apply-requires-clause-args
apply-requires-clause-args t c =
    let ids = take c.in-App.arity (c.in-App.a ∷ c.in-App.b ∷ c.in-App.c ∷ []) in
    subst (HaveSums c.loop-arg.self.sums) (take_all c.loop-arg.arg-index ids c.loop-arg-test.false) c.loop-arg.invariant.have

pub returns-after-loop-arg-clause-read : goal.returns-after-loop-arg-clause-read
returns-after-loop-arg-clause-read t c =
    on_ok _ _ (read_after c.args.terms.now c.args.self.now.sums c.loop-arg.self.sums c.apply.new.self.sums c.args.self.now.opaques c.loop-arg.self.opaques c.apply.new.self.opaques c.args.id.0 c.loop-arg.invariant.grown)
    c.apply.result c.apply.ensures.read
