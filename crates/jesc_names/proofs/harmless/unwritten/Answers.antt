use Rattle.std.proofs.Common.{◌∙◌, ◌++◌, ◌∷◌, [], ap, refl}
use Rattle.jesc_names.proofs.harmless.unwritten.Goals as goal

pub returns : goal.returns
returns c = λ class order id. record {
  name = c.in_ok-append.ensures.ok ∙ ap (λ xs. xs ++ c.args.name.now) c.new-text.ensures;
  place = refl;
  owner = id;
  params = c.new.ensures;
  result = refl;
  result_nullable = refl;
  static = refl;
  private = refl;
  abstract = refl;
  constructor_one = refl;
  pure = refl;
  helper = refl;
  throws = c.new-2.ensures;
  cases = (c.in_ok-harmless.field-0, (c.in_ok-push.ensures.ok ∙ ap (λ xs. xs ++ c.in_ok-harmless.field-0 ∷ []) c.new-cases.ensures), c.in_ok-harmless.ensures);
  body = refl;
}
