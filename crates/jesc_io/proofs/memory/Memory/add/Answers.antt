use Rattle.std.proofs.Common.{◌≡◌, ap, string_bytes}
use Rattle.std.proofs.lemmas.Result.{IfOk-at_ok}
use Rattle.jesc_io.specs.Contents.{Store}
use Rattle.jesc_io.specs.Memory.{store_of}
use Rattle.jesc_io.proofs.Stores.{content_set}
use Rattle.jesc_io.proofs.memory.Memory.add.Goals as goal

pub returns-in-Ok-clause-ok : goal.returns-in-Ok-clause-ok
returns-in-Ok-clause-ok c =
    let key = IfOk-at_ok (λ s. string_bytes s ≡ c.args.name.now) c.in_ok-name.was c.name_of.ensures in
    let text = IfOk-at_ok (λ t. t ≡ c.args.bytes.now) c.in_ok-text.was c.text_of.ensures in
    let sets = content_set (string_bytes c.in_ok-name.name) c.args.self.now.files c.insert.new.self _ c.in-Ok.ensures.updates in
    ap (λ content. let next : Store = record { content = content; reading = (store_of c.args.self.now).reading; writing = (store_of c.args.self.now).writing } in next) (rw (key, text) at sets)
