use Rattle.std.proofs.Common.{◌≡◌, ap, sym, ◌∙◌, rules}
use Rattle.std.specs.Prelude.{option_map, option_copied, string_bytes}
use Rattle.mls_base.specs.Files.{bytes_at}
use Rattle.mls_io.proofs.ShelfLaws.{bytes_at-files_of}
use Rattle.mls_io.proofs.memory.SureStore.found.Goals as goal

pub returns : goal.returns
returns c =
    let a = bytes_at-files_of string_bytes (λ v. v.items) c.self.inside.files.entries c.args.name.now in
    let mapped : option_copied c.map.result ≡ option_map (λ v. v.items) (option_copied c.get.result) = search rules in
    mapped ∙ ap (option_map (λ v. v.items)) c.get.ensures.value ∙ sym a ∙ ap (λ shelf. bytes_at shelf.files c.args.name.now) c.self.view_is
