-- A turn of a list's rule, beside a loop that counts up.
pub use Rattle.jesc_jml_grammar.specs.laws.ListTurns.{until_stops, until_goes_on, until_ends}
