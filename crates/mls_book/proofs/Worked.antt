-- Worked values of `passes`, each by computation alone.
use Rattle.std.proofs.Common.{◌≡◌, ℕ, true, false, List, [], ◌∷◌, refl, codes}
use Rattle.mls_book.specs.declared.book.Field.{Field}
use Rattle.mls_book.specs.declared.book.NodeId.{NodeId}
use Rattle.mls_book.specs.declared.book.Node.{Node}
use Rattle.mls_book.specs.declared.book.Node.TheVariants as node
use Rattle.mls_book.specs.Tests.{test, never_function, always_function, dom, cod, never_record, always_record, lacks, at}
use Rattle.mls_book.specs.Passes.{answer_below, passes, passes_by}
use Rattle.mls_book.specs.Laws.{variable, boolean, integer}
use Rattle.mls_book.proofs.Constructors.{only_function, only_record}
use Rattle.mls_book.proofs.Heads.{test_of}

abbrev id : ℕ → NodeId
id i = record { 0 = i }

abbrev field : List ℕ → ℕ → Field
field label i = record { label = label; node = id i }

-- top, bot, top -> bot
abbrev bounds : List Node
bounds = node.Top ∷ node.Bot ∷ node.Arrow (id 0) (id 1) ∷ []

function_always : passes bounds 2 (only_function always_function) ≡ true
unfolding passes_by answer_below
function_always = refl

bot_never : passes bounds 1 (only_function always_function) ≡ false
unfolding passes_by answer_below
bot_never = refl

top_passes_nothing : passes bounds 0 (only_function never_function) ≡ true
unfolding passes_by answer_below
top_passes_nothing = refl

function_asks : passes bounds 2 (only_function never_function) ≡ false
unfolding passes_by answer_below
function_asks = refl

-- rec a. {next: a}
abbrev stream : List Node
stream = node.Rcd (field (codes "next") 0 ∷ []) ∷ []

stream_has_next : passes stream 0 (only_record (lacks (codes "next"))) ≡ false
unfolding passes_by answer_below
stream_has_next = refl

stream_lacks_other : passes stream 0 (only_record (lacks (codes "now"))) ≡ true
unfolding passes_by answer_below
stream_lacks_other = refl

stream_twice : passes stream 0 (only_record (at (codes "next") (only_record (at (codes "next") (only_record always_record))))) ≡ true
unfolding passes_by answer_below
stream_twice = refl

stream_goes_on : passes stream 0 (only_record (at (codes "next") (only_record (at (codes "next") (only_record (lacks (codes "next"))))))) ≡ false
unfolding passes_by answer_below
stream_goes_on = refl

absent_passes : passes stream 0 (only_record (at (codes "now") (only_record never_record))) ≡ true
unfolding passes_by answer_below
absent_passes = refl

-- rec a. top -> a
abbrev endless : List Node
endless = node.Arrow (id 1) (id 0) ∷ node.Top ∷ []

endless_gives_functions : passes endless 0 (only_function (cod (only_function (cod (only_function always_function))))) ≡ true
unfolding passes_by answer_below
endless_gives_functions = refl

endless_takes_all : passes endless 0 (only_function (dom (test_of boolean))) ≡ false
unfolding passes_by answer_below
endless_takes_all = refl

-- rec a. a -> bot, which is contravariant
abbrev turned : List Node
turned = node.Arrow (id 0) (id 1) ∷ node.Bot ∷ []

turned_once : passes turned 0 (only_function (dom (only_function never_function))) ≡ true
unfolding passes_by answer_below
turned_once = refl

turned_twice : passes turned 0 (only_function (dom (only_function (dom (only_function never_function))))) ≡ false
unfolding passes_by answer_below
turned_twice = refl

-- int, bool, int | bool, int & bool, a variable
abbrev mixed : List Node
mixed = node.Int ∷ node.Bool ∷ node.Join (id 0) (id 1) ∷ node.Meet (id 0) (id 1) ∷ node.Var 7 ∷ []

join_of_bases : passes mixed 2 (test_of boolean) ≡ true
unfolding passes_by answer_below
join_of_bases = refl

meet_of_bases : passes mixed 3 (test_of boolean) ≡ false
unfolding passes_by answer_below
meet_of_bases = refl

-- which is not bot
meet_is_inhabited : passes mixed 3 (test [] true true never_function never_record) ≡ true
unfolding passes_by answer_below
meet_is_inhabited = refl

its_variable : passes mixed 4 (test_of (variable 7)) ≡ true
unfolding passes_by answer_below
its_variable = refl

other_variable : passes mixed 4 (test_of (variable 8)) ≡ false
unfolding passes_by answer_below
other_variable = refl

-- a -> a
abbrev identity : List Node
identity = node.Arrow (id 1) (id 1) ∷ node.Var 0 ∷ []

identity_gives_its_argument : passes identity 0 (only_function (cod (test_of (variable 0)))) ≡ true
unfolding passes_by answer_below
identity_gives_its_argument = refl

identity_takes_its_argument : passes identity 0 (only_function (dom (test_of (variable 0)))) ≡ false
unfolding passes_by answer_below
identity_takes_its_argument = refl

identity_takes_no_other : passes identity 0 (only_function (dom (test_of integer))) ≡ true
unfolding passes_by answer_below
identity_takes_no_other = refl
