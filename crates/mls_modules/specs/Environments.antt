-- What imports declare, and what is known at a binding of a module.
use Rattle.std.specs.Prelude.{◌≡◌, ℕ, List, map, length, All}
use Rattle.std.specs.List.{flat_map}
use Rattle.std.specs.FinMap as env
use Rattle.mls_grammar.specs.declared.module.Module.{Module}
use Rattle.mls_term.specs.Derivations.{Known}
use Rattle.mls_typetext.specs.declared.scheme.Names.{Names}
use Rattle.mls_typetext.specs.declared.scheme.ReadScheme.{ReadScheme}
use Rattle.mls_typetext.specs.Schemes.{environment}
use Rattle.mls_infer.specs.Inference.{schemes_in}
use Rattle.mls_iface.specs.declared.interface.Interface.{Interface}
use Rattle.mls_iface.specs.declared.signature.SigEntry.{SigEntry}
use Rattle.mls_iface.specs.Matches.{AreDeclarations}

-- an interface such as a text is read as: no name is declared twice, and its schemes were read
abbrev pub IsValidInterface : Interface → Type 0
IsValidInterface i = AreDeclarations i.vals

-- there is one interface for each import of the module
pub record AreInterfacesOf (m : Module) (imports : List Interface) : Type 0 where
  pub count : length imports ≡ length m.imports
  pub valid : All IsValidInterface imports

-- the names that each import declares
abbrev pub declared_names : List Interface → List (List (List ℕ))
declared_names imports = map (λ i. map (λ v. v.name) i.vals) imports

-- the schemes that the imports declare, in the order of the imports
abbrev pub declared_schemes : List Interface → List ReadScheme
declared_schemes imports = flat_map (λ i. map (λ v. v.scheme) i.vals) imports

-- what the texts of entries are read as
abbrev pub entry_schemes : List SigEntry → List ReadScheme
entry_schemes entries = map (λ e. e.scheme) entries

-- what is known behind these entries: the operators, what the imports declare in order, and what the texts of the
-- entries are read as
abbrev pub known_after : List Interface → List SigEntry → Known
known_after imports entries =
    record { globals = environment (declared_schemes imports) (entry_schemes entries); lets = env.empty }

-- the names mean what is known behind these entries
abbrev pub MeanAfter : List Interface → List SigEntry → Names → Type 0
MeanAfter imports entries names = schemes_in names ≡ environment (declared_schemes imports) (entry_schemes entries)
