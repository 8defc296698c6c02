use Rattle.std.proofs.Common.{◌≡◌, map, drop}
use Rattle.jesc_core.specs.Trees.{terms_of, term_view}
use Rattle.jesc_core.specs.Fields.{fields_of_terms}
use Rattle.jesc_core.proofs.fields.+fields_of_terms.Given as goal

abbrev pub invariant-of_terms-loop-k : goal.invariant-of_terms-loop-k
invariant-of_terms-loop-k l = l.count ≡ fields_of_terms (terms_of (map term_view (drop l.k l.terms)))
