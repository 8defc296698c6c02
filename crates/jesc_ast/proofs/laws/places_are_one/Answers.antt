use Rattle.jesc_ast.specs.laws.Places.{place_is}
use Rattle.jesc_ast.proofs.laws.places_are_one.Goals as goal

pub returns : goal.returns
returns c = λ text span within. place_is text span within
