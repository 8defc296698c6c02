use Rattle.std.proofs.Common.{◌<◌, ◌∙◌, ◌∷◌, ◌++◌, [], ℕ, List, IfSome, ap, sym, subst, map, length, get_or}
use Rattle.jesc_lookup.specs.Maps.{at, with_at}
use Rattle.jesc_members.specs.Seen.{seen_method}
use Rattle.jesc_members.specs.Summaries.{IsSummary, IsSummaryOf}
use Rattle.jesc_members.specs.SummaryLayers.{summary_of}
use Rattle.jesc_members.proofs.SummarySteps.{one_added, sample_small}
use Rattle.jesc_members.proofs.summary_layers.add_one.Goals as goal

pub summed-new-requires-clause-sample : goal.summed-new-requires-clause-sample
summed-new-requires-clause-sample c =
    let key = get_or c.args.keys.now c.args.method 0 in
    let is = c.find-old.ensures ∙ ap (λ xs. summary_of xs (at (get_or c.args.versions.now c.args.above.version []) key)) c.as_slice.ensures in
    let small = sample_small (map seen_method c.args.methods.now) c.args.keys.now c.args.versions.now c.args.summaries.now c.args.above c.requires.held key in
    subst (λ n. IfSome c.find-old.result (λ s. s.sample < n)) c.requires.count (subst (λ o. IfSome o (λ s. s.sample < length c.args.keys.now)) (sym is) small)

pub returns : goal.returns
returns c =
    let methods = map seen_method c.args.methods.now in
    let key = get_or c.args.keys.now c.args.method 0 in
    let old = c.args.versions.now in
    let new = c.summed-new.result in
    let is = c.find-old.ensures ∙ ap (λ xs. summary_of xs (at (get_or old c.args.above.version []) key)) c.as_slice.ensures in
    let made = c.in_ok-version.ensures.ok ∙ ap (λ p. old ++ with_at (get_or old c.args.above.version []) key p ∷ []) c.in_ok-place.ensures in
    let sums = subst (λ o. (of : List ℕ) → IsSummaryOf methods of o → IsSummary methods (of ++ c.args.method ∷ []) new) is c.summed-new.ensures in
    one_added methods c.args.keys.now old c.args.summaries.now c.args.above c.args.method new c.in_ok-version.version c.put.new.self c.push.new.self c.requires.store c.requires.held.known.there c.requires.key
    c.in_ok-push.ensures.ok made c.in_ok-version.ensures.number c.or_both.result c.or_both-2.result c.or_both.ensures c.or_both-2.ensures sums
