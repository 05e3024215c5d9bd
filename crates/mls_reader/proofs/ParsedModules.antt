-- What was read of the tokens of a module is the module, or has its first double.
use Rattle.std.proofs.Common.{◌≡◌, ℕ, ◌≤◌, List, [], ◌∷◌, refl, sym, ap, ◌∙◌, subst, map, Some, None}
use Rattle.mls_lexer.specs.declared.token.Token.{Token}
use Rattle.mls_lexer.specs.Tokens.{IsTokens, terminal, terminals, place_of}
use Rattle.mls_grammar.specs.declared.module.Module.{Module}
use Rattle.mls_grammar.specs.declared.fault.Fault.{Fault}
use Rattle.mls_reader.specs.declared.piece.Piece.{Piece}
use Rattle.mls_reader.specs.declared.piece.Event.{Event}
use Rattle.mls_grammar.specs.Phrases.{Phrase, source, yields, nesting}
use Rattle.mls_grammar.specs.Trees.{SourceTree, meaning}
use Rattle.mls_grammar.specs.Modules.{module_of, IsModuleText}
use Rattle.mls_reader.specs.steps.PieceMachine.{State, build, last_told, beginning}
use Rattle.mls_reader.specs.steps.Told.{TellsSource}
use Rattle.mls_grammar.specs.Doubles.{doubles}
use Rattle.mls_reader.specs.steps.GivenTwice.{doubles_in, first_of}
use Rattle.mls_grammar.specs.FirstFaults.{HasFirstFault, in_doubles}
use Rattle.mls_reader.proofs.GivenDoubles.{given-doubles}
use Rattle.mls_reader.proofs.Placed.{built-tokens}
use Rattle.mls_reader.proofs.Telling.{emitted-tells}
use Rattle.mls_grammar.proofs.Undoubled.{undoubled}

first_there : (fs : List Fault) (fault : Fault) → first_of fs ≡ Some fault → (later : List Fault) × (fs ≡ fault ∷ later)
first_there [] fault e = absurd (cc)
first_there (f ∷ fs) fault e = let same : f ≡ fault = cc in (fs, ap (λ g. g ∷ fs) same)

none_there : (fs : List Fault) → first_of fs ≡ None → fs ≡ []
none_there [] e = refl
none_there (f ∷ fs) e = absurd (cc)

module _ (text : List ℕ) (tokens : List Token) (are : IsTokens text tokens) (p : Phrase source) (spelled : yields p [] ≡ terminals text tokens) (shallow : nesting p ≤ 200) where
  abbrev end : State
  end = build beginning [] [] (map (λ token. (token.start, terminal text token)) tokens)

  doubles_are : (events : List Event) → events ≡ end.heard → doubles_in [] [] [] events ≡ doubles (place_of tokens) [] 0 p
  doubles_are events e =
      ap (doubles_in [] [] []) (e ∙ (built-tokens text tokens 0 p spelled).1)
      ∙ given-doubles (place_of tokens) 0 p

  -- the first double is the first fault of the text,
  pub double_is_first : (events : List Event) (fault : Fault) → events ≡ end.heard → first_of (doubles_in [] [] [] events) ≡ Some fault → HasFirstFault text fault
  double_is_first events fault e is =
      let it = first_there (doubles (place_of tokens) [] 0 p) fault (ap first_of (sym (doubles_are events e)) ∙ is) in
      in_doubles tokens are p spelled shallow fault it.0 it.1

  -- and where there is none, what the pieces tell is the module of the text
  pub module_is_text : (pieces : List Piece) (events : List Event) (m : Module) → pieces ≡ last_told end.stack end.told → events ≡ end.heard → first_of (doubles_in [] [] [] events) ≡ None
      → ((tree : SourceTree) → TellsSource pieces tree → m ≡ module_of tree) → IsModuleText text m
  module_is_text pieces events m told heard none makes =
      let place = place_of tokens in
      let tree : SourceTree = meaning place 0 p in
      let tells : TellsSource pieces tree = subst (λ ps. TellsSource ps tree) (sym (told ∙ (built-tokens text tokens 0 p spelled).0)) (emitted-tells place 0 p) in
      let clean = none_there (doubles place [] 0 p) (ap first_of (sym (doubles_are events heard)) ∙ none) in
      record {
        tree = tree;
        text_of = record {
          tokens = tokens;
          has_tokens = are;
          phrase = p;
          spelled = spelled;
          shallow = shallow;
          meant = refl;
          no_doubles = undoubled place p [] 0 clean;
        };
        nodes = makes tree tells;
      }
