use Rattle.std.proofs.Common.{◌<◌, IfSome, length, refl, subst}
use Rattle.std.proofs.lemmas.Option.{slice_get_read}
use Rattle.jesc_tree.specs.declared.class.Class.{Class}
use Rattle.jesc_sites.specs.Sites.{setting}
use Rattle.jesc_references.proofs.Ranges.{parent_inside}
use Rattle.jesc_references.proofs.calls.searched.Goals as goal

pub returns-in-Super-clause-inside : goal.returns-in-Super-clause-inside
returns-in-Super-clause-inside c =
    let s = setting c.args.site.now in
    let k = c.index-classes-site.result in
    subst (λ (x : Class). IfSome x.parent (λ p. p.0 < length s.classes)) c.index-classes-site.is
    (parent_inside s c.requires.setting s.class k (slice_get_read s.classes (length s.classes) s.class k refl c.requires.setting.class (rw c.classes.ensures at c.index-classes-site.is)))
