-- The names that the module of a text binds are names.
use Rattle.std.proofs.Common.{ℕ, ◌+◌, List, [], ◌∷◌, All, refl, sym, subst}
use Rattle.std.proofs.lemmas.List.Elements.{All-nil, All-cons, All-head, All-tail}
use Rattle.mls_base.specs.Spelling.{IsName}
use Rattle.mls_lexer.specs.declared.token.Kind.TheVariants as kind
use Rattle.mls_lexer.specs.Tokens.{Terminal, name, word, terminals}
use Rattle.mls_lexer.specs.Spellings.{IsTerminal}
use Rattle.mls_lexer.proofs.Writings.{tokens_are_terminals}
use Rattle.mls_grammar.specs.Phrases.{Sort, source, bindings, bind_rest, Phrase, whole, no_import, importing, no_binding, binding, simple, recursive, fun, fix, local, choice, plain, simple_in, recursive_in, no_compare, less, equal, summed, no_sum, plus, minus, multiplied, no_product, times, applied, no_argument, argument, posted, no_dot, dot, variable, literal, truth, parens, braces, no_part, first_part, last_part, next_part, yields, width}
use Rattle.mls_grammar.specs.Trees.{a_fix, BindingTree, SourceTree, meaning}
use Rattle.mls_grammar.specs.Modules.{IsTextOf}

module _ (P : Terminal → Type 0) where
  one : (t : Terminal) (rest : List Terminal) → All P (t ∷ rest) → All P rest
  one t rest h = All-tail P t rest h

  two : (t u : Terminal) (rest : List Terminal) → All P (t ∷ u ∷ rest) → All P rest
  two t u rest h = one u rest (one t (u ∷ rest) h)

  three : (t u v : Terminal) (rest : List Terminal) → All P (t ∷ u ∷ v ∷ rest) → All P rest
  three t u v rest h = one v rest (two t u (v ∷ rest) h)

  -- what holds of all that a phrase spells and what follows it holds of what follows it
  behind : {s : Sort} (p : Phrase s) (rest : List Terminal) → All P (yields p rest) → All P rest
  unfolding yields
  behind (whole i b) rest h = behind b rest (behind i (yields b rest) h)
  behind no_import rest h = h
  behind (importing x i) rest h = behind i rest (two _ _ (yields i rest) h)
  behind no_binding rest h = h
  behind (binding r) rest h = behind r rest (one _ (yields r rest) h)
  behind (simple x e b) rest h = behind b rest (behind e (yields b rest) (two _ _ (yields e (yields b rest)) h))
  behind (recursive x e b) rest h = behind b rest (behind e (yields b rest) (three _ _ _ (yields e (yields b rest)) h))
  behind (fun x e) rest h = behind e rest (three _ _ _ (yields e rest) h)
  behind (fix x e) rest h = behind e rest (three _ _ _ (yields e rest) h)
  behind (local r) rest h = behind r rest (one _ (yields r rest) h)
  behind (choice c e f) rest h =
      behind f rest (one _ (yields f rest) (behind e _ (one _ _ (behind c _ (one _ _ h)))))
  behind (plain s t) rest h = behind t rest (behind s (yields t rest) h)
  behind (simple_in x e f) rest h = behind f rest (one _ (yields f rest) (behind e _ (two _ _ _ h)))
  behind (recursive_in x e f) rest h = behind f rest (one _ (yields f rest) (behind e _ (three _ _ _ _ h)))
  behind no_compare rest h = h
  behind (less s) rest h = behind s rest (one _ (yields s rest) h)
  behind (equal s) rest h = behind s rest (one _ (yields s rest) h)
  behind (summed p t) rest h = behind t rest (behind p (yields t rest) h)
  behind no_sum rest h = h
  behind (plus p t) rest h = behind t rest (behind p (yields t rest) (one _ _ h))
  behind (minus p t) rest h = behind t rest (behind p (yields t rest) (one _ _ h))
  behind (multiplied p t) rest h = behind t rest (behind p (yields t rest) h)
  behind no_product rest h = h
  behind (times p t) rest h = behind t rest (behind p (yields t rest) (one _ _ h))
  behind (applied p t) rest h = behind t rest (behind p (yields t rest) h)
  behind no_argument rest h = h
  behind (argument p t) rest h = behind t rest (behind p (yields t rest) h)
  behind (posted p t) rest h = behind t rest (behind p (yields t rest) h)
  behind no_dot rest h = h
  behind (dot label d) rest h = behind d rest (two _ _ (yields d rest) h)
  behind (variable x) rest h = one _ rest h
  behind (literal value) rest h = one _ rest h
  behind (truth value) rest h = one _ rest h
  behind (parens e) rest h = one _ rest (behind e _ (one _ _ h))
  behind (braces p) rest h = behind p rest (one _ (yields p rest) h)
  behind no_part rest h = one _ rest h
  behind (first_part label e p) rest h = behind p rest (behind e (yields p rest) (two _ _ _ h))
  behind last_part rest h = one _ rest h
  behind (next_part label e p) rest h = behind p rest (behind e (yields p rest) (three _ _ _ _ h))

-- each of these bindings binds a name
abbrev pub BindNames : List BindingTree → Type 0
BindNames bs = All (λ b. IsName b.x) bs

module _ (place : ℕ → ℕ) where
  mutual
    unfolding yields meaning

    bound-bindings : (k : ℕ) (p : Phrase bindings) (rest : List Terminal) → All IsTerminal (yields p rest) → BindNames (meaning place k p)
    bound-bindings k no_binding rest h = All-nil (λ (b : BindingTree). IsName b.x)
    bound-bindings k (binding r) rest h = bound-rest (k + 1) r rest (one IsTerminal (word kind.WordLet) (yields r rest) h)

    bound-rest : (k : ℕ) (p : Phrase bind_rest) (rest : List Terminal) → All IsTerminal (yields p rest) → BindNames (meaning place k p)
    bound-rest k (simple x e b) rest h =
        All-cons (λ (b : BindingTree). IsName b.x) (record { x = x; at = place k; body = meaning place (k + 2) e }) (meaning place (k + 2 + width e) b)
        (All-head IsTerminal (name x) (word kind.Equals ∷ yields e (yields b rest)) h)
        (bound-bindings (k + 2 + width e) b rest (behind IsTerminal e (yields b rest) (two IsTerminal (name x) (word kind.Equals) (yields e (yields b rest)) h)))
    bound-rest k (recursive x e b) rest h =
        All-cons (λ (b : BindingTree). IsName b.x) (record { x = x; at = place (k + 1); body = a_fix (place k) x (meaning place (k + 3) e) })
        (meaning place (k + 3 + width e) b)
        (All-head IsTerminal (name x) (word kind.Equals ∷ yields e (yields b rest))
        (All-tail IsTerminal (word kind.WordRec) (name x ∷ word kind.Equals ∷ yields e (yields b rest)) h))
        (bound-bindings (k + 3 + width e) b rest (behind IsTerminal e (yields b rest) (three IsTerminal (word kind.WordRec) (name x) (word kind.Equals) (yields e (yields b rest)) h)))

  bound-whole : (k : ℕ) (p : Phrase source) → All IsTerminal (yields p []) → BindNames (meaning place k p).bound
  unfolding yields meaning
  bound-whole k (whole i b) h = bound-bindings (k + width i) b [] (behind IsTerminal i (yields b []) h)

pub text_binds_names : (text : List ℕ) (tree : SourceTree) → IsTextOf text tree → BindNames tree.bound
text_binds_names text tree is =
    let all = tokens_are_terminals text (terminals text is.tokens) (is.tokens, is.has_tokens, refl) in
    subst (λ (t : SourceTree). BindNames t.bound) (sym is.meant) (bound-whole _ 0 is.phrase (subst (All IsTerminal) (sym is.spelled) all))
