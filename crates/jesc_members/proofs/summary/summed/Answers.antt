use Rattle.std.proofs.Common.{◌≡◌, ◌<◌, ◌∷◌, ◌++◌, [], length, map, IfSome, sym, subst}
use Rattle.jesc_members.specs.Seen.{seen_method}
use Rattle.jesc_members.specs.Summaries.{IsSummary, IsSummaryOf}
use Rattle.jesc_members.proofs.SummedJoins.{alone, joined, seen_at}
use Rattle.jesc_members.proofs.summary.summed.Goals as goal

pub returns-in-Some : goal.returns-in-Some
returns-in-Some c = λ of h.
    let methods = c.args.methods.now in
    let old = c.in-Some.old in
    let known : IsSummary (map seen_method methods) of old = subst (IsSummaryOf (map seen_method methods) of) c.in-Some.is h in
    let inside : old.sample < length methods = subst (λ o. IfSome o (λ s. s.sample < length methods)) c.in-Some.is c.requires.sample in
    joined (map seen_method methods) c.args.method (seen_method c.index-methods-method.result) (seen_at methods c.args.method c.index-methods-method.result c.requires.method c.index-methods-method.is) of old c.joined.result
    (seen_method c.index-methods-old.result) known (seen_at methods old.sample c.index-methods-old.result inside c.index-methods-old.is)
    c.joined.ensures.sample c.joined.ensures.many c.joined.ensures.mixed c.joined.ensures.hides c.joined.ensures.sealed

pub returns-in-None : goal.returns-in-None
returns-in-None c = λ of h.
    let methods = c.args.methods.now in
    let none : of ≡ [] = subst (IsSummaryOf (map seen_method methods) of) c.in-None.is h in
    subst (λ l. IsSummary (map seen_method methods) (l ++ c.args.method ∷ []) c.alone.result) (sym none)
    (alone (map seen_method methods) c.args.method (seen_method c.index-methods-method.result) (seen_at methods c.args.method c.index-methods-method.result c.requires.method c.index-methods-method.is) c.alone.result
    c.alone.ensures.sample c.alone.ensures.many c.alone.ensures.mixed c.alone.ensures.hides c.alone.ensures.sealed)
