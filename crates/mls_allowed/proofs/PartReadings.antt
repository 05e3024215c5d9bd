-- The order of a part's nodes justifies itself, and so does what is read where variables stand for nodes of the part.
--     one_below       what follows from the claims of a part is in the order
--     part_reading    the laws of the order and of what is read
use Rattle.std.proofs.Common.{◌≡◌, inl, inr, ℕ, zero, ◌<◌, true, false, List, [], ◌∷◌, length, refl, sym, subst, None}
use Rattle.std.specs.Prelude.{All}
use Rattle.std.proofs.lemmas.List.Elements.{All-nil, All-cons, All-head, All-tail}
use Rattle.mls_book.specs.declared.book.Field.{Field}
use Rattle.mls_book.specs.declared.book.Node.{Node}
use Rattle.mls_book.specs.declared.book.Node.TheVariants as node
use Rattle.mls_book.specs.Books.{node_at, IsClosedBook}
use Rattle.mls_automaton.specs.declared.scheme.Scheme.{Scheme}
use Rattle.mls_automaton.specs.Automata.{Automaton}
use Rattle.mls_automaton.specs.Models.{IsClosed}
use Rattle.mls_automaton.proofs.Instances.{AreGoals}
use Rattle.mls_solver.specs.Relations.{IsRelated}
use Rattle.mls_solver.specs.Clashes.{HasNoClash}
use Rattle.mls_solver.specs.Solved.{IsSolved}
use Rattle.mls_subsume.specs.declared.verdict.StatePair.{StatePair}
use Rattle.mls_subsume.specs.Walks.{IsIn, IsWalk}
use Rattle.mls_deriv.specs.declared.derivation.Mode.{Mode}
use Rattle.mls_deriv.specs.declared.derivation.Mode.TheVariants.{Lr, Rl, Pp}
use Rattle.mls_deriv.specs.declared.claim.Put.{Put}
use Rattle.mls_deriv.specs.Pairs.{put_at, left_put, right_put, exchanged, IsJustified}
use Rattle.mls_deriv.specs.Steps.{Before}
use Rattle.mls_lines.specs.Conclusions.{IsUnread, IsReading}
use Rattle.mls_layout.specs.Layouts.{IsLayout, PartClaims, IsItself}
use Rattle.mls_lines.specs.Orders.{IsOrder}
use Rattle.mls_allowed.specs.Readings.{IsOneBelow, IsBelow, IsReadClaim, IsUnreadItself, IsRead}
use Rattle.mls_layout.specs.Shown.{IsShown, based, AreShown}
use Rattle.mls_layout.specs.Uses.{NamesOnly, AreFree, IsUseClaim, below_copy, above_copy, NoClaim}
use Rattle.mls_allowed.proofs.LetsEmitted.{free_justified}
use Rattle.mls_allowed.proofs.MoreClaims.{IsJustified-more, shown_more, reread}
use Rattle.mls_allowed.proofs.Orders.{steps_order, steps_then}
use Rattle.mls_allowed.proofs.PartClaims.{part_shown}
use Rattle.mls_allowed.proofs.Shown.{shown_justified}
use Rattle.mls_allowed.proofs.UseClaims.{use_shown}

-- a node whose children are of one kind, and of another
all_more : (P Q : ℕ → Type 0) → ((i : ℕ) → P i → Q i) → (fields : List Field) → All (λ (f : Field). P f.node.0) fields → All (λ (f : Field). Q f.node.0) fields
all_more P Q within [] all = All-nil (λ (f : Field). Q f.node.0)
all_more P Q within (f ∷ fields) all =
    All-cons (λ (g : Field). Q g.node.0) f fields (within f.node.0 (All-head (λ (g : Field). P g.node.0) f fields all)) (all_more P Q within fields (All-tail (λ (g : Field). P g.node.0) f fields all))

names_more : (P Q : ℕ → Type 0) → ((i : ℕ) → P i → Q i) → (n : Node) → NamesOnly P n → NamesOnly Q n
names_more P Q within node.Bot h = h
names_more P Q within node.Top h = h
names_more P Q within (node.Var x) h = h
names_more P Q within node.Bool h = h
names_more P Q within node.Int h = h
names_more P Q within (node.Arrow j k) h = (within j.0 h.0, within k.0 h.1)
names_more P Q within (node.Rcd fields) h = all_more P Q within fields h
names_more P Q within (node.Join j k) h = (within j.0 h.0, within k.0 h.1)
names_more P Q within (node.Meet j k) h = (within j.0 h.0, within k.0 h.1)

every : (P : Field → Type 0) → ((f : Field) → P f) → (fields : List Field) → All P fields
every P all [] = All-nil P
every P all (f ∷ fields) = All-cons P f fields (all f) (every P all fields)

names_all : (P : ℕ → Type 0) → ((i : ℕ) → P i) → (n : Node) → NamesOnly P n
names_all P all node.Bot = tt
names_all P all node.Top = tt
names_all P all (node.Var x) = tt
names_all P all node.Bool = tt
names_all P all node.Int = tt
names_all P all (node.Arrow j k) = (all j.0, all k.0)
names_all P all (node.Rcd fields) = every (λ (f : Field). P f.node.0) (λ f. all f.node.0) fields
names_all P all (node.Join j k) = (all j.0, all k.0)
names_all P all (node.Meet j k) = (all j.0, all k.0)

-- nodes that are read as they stand
unread_free : (book : List Node) (Own : ℕ → Type 0) → ((i : ℕ) → Own i → NamesOnly Own (node_at book i)) → (puts : List Put) → AreFree book puts (IsUnread book Own puts)
unread_free book Own children puts = record { children = below; variables = still }
  where
    below : (i : ℕ) → IsUnread book Own puts i → NamesOnly (IsUnread book Own puts) (node_at book i)
    below i (inl none) = names_all (IsUnread book Own puts) (λ k. inl none) (node_at book i)
    below i (inr it) = names_more Own (IsUnread book Own puts) (λ k own. inr (it.0, own)) (node_at book i) (children i it.1)

    still : (i x : ℕ) → IsUnread book Own puts i → node_at book i ≡ node.Var x → put_at puts x ≡ None
    still i x (inl none) is = subst (λ (l : List Put). put_at l x ≡ None) (sym none) refl
    still i x (inr it) is = it.0 i x it.1 is

module _ (b : Before) (a : Automaton) (IsGoal : ℕ → ℕ → Type 0) (closed : IsClosed a) (goals : AreGoals a IsGoal) (free : HasNoClash a (IsRelated a IsGoal))
    (general special : Scheme) (is_solved : IsSolved a (IsRelated a IsGoal) general.automaton) (closed_type : IsClosed special.automaton)
    (walked : List StatePair) (walk : IsWalk general special walked)
    (place type_place : ℕ → ℕ) (layout : IsLayout b.book a special.automaton (IsRelated a IsGoal) (IsIn walked) place type_place)
    (closed_book : IsClosedBook b.book) (places : (s : ℕ) → place s < length b.book) where
  abbrev Claims : Mode → ℕ → ℕ → Type 0
  Claims = PartClaims a special.automaton (IsRelated a IsGoal) (IsIn walked) place type_place

  abbrev pub OneBelow : ℕ → ℕ → Type 0
  OneBelow = IsOneBelow b.book a special.automaton (IsRelated a IsGoal) (IsIn walked) place type_place

  abbrev pub Below : ℕ → ℕ → Type 0
  Below = IsBelow b.book a special.automaton (IsRelated a IsGoal) (IsIn walked) place type_place

  shown : AreShown b.book [] IsItself Claims
  shown = part_shown b.book a IsGoal closed goals free general special is_solved closed_type walked walk place type_place layout

  -- without put lines all modes read alike
  no_left : (mode : Mode) → Unit {0} → (x : ℕ) → left_put mode [] x ≡ None
  no_left Lr it x = refl
  no_left Rl it x = refl
  no_left Pp it x = refl

  no_right : (mode : Mode) → Unit {0} → (x : ℕ) → right_put mode [] x ≡ None
  no_right Lr it x = refl
  no_right Rl it x = refl
  no_right Pp it x = refl

  pub in_mode : (mode other : Mode) (i j : ℕ) → IsShown b.book [] IsItself Claims true mode i j → IsShown b.book [] IsItself Claims true other i j
  in_mode mode other i j h =
      reread b.book [] IsItself Claims IsItself Claims (λ m. Unit {0}) (λ m it. tt) no_left no_right (λ m n k l it h. h) (λ m n k l it h. h) (λ m k l e. e) true mode other i j tt h

  pub one_below : (mode : Mode) (i j : ℕ) → IsShown b.book [] IsItself Claims true mode i j → Below i j
  one_below mode i j h = (zero, in_mode mode Lr i j h)

  one_order : IsOrder b.book OneBelow
  one_order i j h =
      IsJustified-more b.book [] (IsShown b.book [] IsItself Claims true) (λ m. OneBelow) (λ m k l it. in_mode m Lr k l it) Lr i j
      (shown_justified b.book [] IsItself Claims shown Lr i j h)

  module _ (IsPlace : ℕ → ℕ → Type 0) (Own : ℕ → Type 0) (children : (i : ℕ) → Own i → NamesOnly Own (node_at b.book i)) (binder : ℕ → ℕ) (own_binder : (x : ℕ) → Own (place (binder x))) where
    abbrev pub Read : List Put → Mode → ℕ → ℕ → Type 0
    Read = IsRead b.book a place IsPlace Own

    abbrev ReadClaim : List Put → Mode → ℕ → ℕ → Type 0
    ReadClaim = IsReadClaim b.book a place IsPlace Own

    abbrev Itself : List Put → Mode → ℕ → ℕ → Type 0
    Itself = IsUnreadItself b.book a place IsPlace Own

    claim_shown : (puts : List Put) (mode : Mode) (i j : ℕ) → ReadClaim puts mode i j → IsShown b.book puts (Itself puts) (ReadClaim puts) false mode i j
    claim_shown puts mode i j it =
        shown_more b.book puts NoClaim (IsUseClaim (IsPlace it.at) it.copied.sign place it.copied.known_place it.copied.copy) (Itself puts) (ReadClaim puts)
        (λ m k l h. absurd h)
        (λ m k l h. record { at = it.at; top = it.top; copied = it.copied; same = it.same; claim = h })
        false mode i j
        ((use_shown b.book a special.automaton (IsRelated a IsGoal) (IsIn walked) place type_place layout (IsPlace it.at) it.copied.sign it.copied.known_place it.copied.copy it.copied.type puts
        (record {
          joined = it.copied.are.joined;
          put = λ s x at_s shows. it.same x (it.copied.are.joined x) (it.copied.are.put s x at_s shows);
          tree = it.copied.are.tree;
        })).others mode i j it.claim)

    read_shown : (puts : List Put) → AreShown b.book puts (Itself puts) (ReadClaim puts)
    read_shown puts = record {
      basic =
          λ mode i j it.
          subst (IsJustified b.book puts (Read puts) mode i) it.1
          (free_justified b.book puts (IsUnread b.book Own puts) (unread_free b.book Own children puts) (ReadClaim puts) mode i it.0);
      others = claim_shown puts;
    }

    not_read : (puts : List Put) (i j : ℕ) → ReadClaim puts Pp i j → ⊥
    not_read puts i j it = go Pp refl it.claim
      where
        go : (mode : Mode) → mode ≡ Pp → IsUseClaim (IsPlace it.at) it.copied.sign place it.copied.known_place it.copied.copy mode i j → ⊥
        go mode is (below_copy s at_s sign e f g) = absurd (cc)
        go mode is (above_copy s at_s sign e f g) = absurd (cc)

    plain_left : (puts : List Put) (mode : Mode) → mode ≡ Pp → (x : ℕ) → left_put mode puts x ≡ None
    plain_left puts mode is x = subst (λ m. left_put m puts x ≡ None) (sym is) refl

    plain_right : (puts : List Put) (mode : Mode) → mode ≡ Pp → (x : ℕ) → right_put mode puts x ≡ None
    plain_right puts mode is x = subst (λ m. right_put m puts x ≡ None) (sym is) refl

    pub part_reading : IsReading b Own Below Read (λ x. place (binder x))
    part_reading = record {
      closed = closed_book;
      itself = λ i. (zero, based refl);
      further = steps_then OneBelow;
      is_order = steps_order b.book closed_book.book OneBelow one_order;
      justified = λ puts mode i j h. shown_justified b.book puts (Itself puts) (ReadClaim puts) (read_shown puts) mode i j h;
      plain =
          λ puts i j h. (
            zero,
            reread b.book puts (Itself puts) (ReadClaim puts) IsItself Claims (λ m. m ≡ Pp) (λ m is. subst (λ z. exchanged z ≡ Pp) (sym is) refl) (plain_left puts) (plain_right puts)
                (λ m n k l is it. it.1) (λ m n k l is it. absurd (not_read puts k l (subst (λ z. ReadClaim puts z k l) is it))) (λ m k l e. e) true Pp Lr i j refl h,
          );
      unread = λ puts mode i it. based (it, refl);
      own_node = own_binder;
      low_node = λ x. places (binder x);
    }
