-- The table is tidy: a node has one way at a position, but for an arrow with one plain parameter and a `new` without arguments.
use Rattle.tokens.specs.declared.token.TokenClass.{TokenClass}
use Rattle.tokens.specs.declared.token.TokenClass.TheVariants.{IdentifierName}
use Rattle.std.proofs.Common.{◌≡◌, ℕ, Bool, true, false, cond, List, [], ◌∷◌, ◌++◌, refl, sym, ap, ◌&&◌, arith}
use Rattle.std.specs.Prelude.{Option, Some, None, IsTrue, ◌&&◌, ◌||◌, not, nat_le, nat_eq}
use Rattle.std.proofs.lemmas.Bool.{and_parts, and_from}
use Rattle.std.proofs.lemmas.Bool.Decides.{nat_tests}
use Rattle.tree.specs.declared.kind.Kind.{Kind}
use Rattle.tree.specs.declared.kind.Kind.TheVariants.{Program, Identifier, Literal, Super, Property, SpreadElement, FunctionExpression, ArrowFunctionExpression, ClassBody, MethodDefinition, TemplateLiteral, TemplateElement, MemberExpression, CallExpression, NewExpression, MetaProperty, ChainExpression, UpdateExpression, UnaryExpression, BinaryExpression, LogicalExpression, AssignmentExpression, SequenceExpression, ArrayPattern, ObjectPattern, AssignmentPattern, RestElement, ExpressionStatement, BlockStatement, ReturnStatement, IfStatement, SwitchStatement, SwitchCase, TryStatement, CatchClause, VariableDeclaration, VariableDeclarator, FunctionDeclaration, ClassDeclaration, YieldExpression, PrivateIdentifier, PropertyDefinition, StaticBlock, ImportDeclaration, ImportSpecifier, ImportDefaultSpecifier, ImportNamespaceSpecifier, ExportNamedDeclaration, ExportSpecifier, ExportDefaultDeclaration, ExportAllDeclaration}
use Rattle.language.specs.declared.Rank.{Rank}
use Rattle.language.specs.declared.Rank.TheVariants.{Assignment, New, Member, Primary}
use Rattle.language.specs.declared.Start.{Start}
use Rattle.language.specs.declared.Start.TheVariants.{Any, NoBrace, Statement}
use Rattle.tree.specs.declared.kind.Flags.{Flags}
use Rattle.tree.specs.declared.kind.Form.{Form}
use Rattle.tree.specs.declared.kind.Form.TheVariants.{Init, Get, Set, Method, Shorthand, Constructor, Generator, Async}
use Rattle.tree.specs.declared.kind.Form.TheVariants as form
use Rattle.tree.specs.Tree.{Tree, node, Parts, none, part, gap}
use Rattle.language.specs.FirstPart.{lead, others}
use Rattle.language.specs.Vocabulary.{precedence, is_keyword, is, is_target, is_pattern, Operator, op_binary, op_power, operator_of}
use Rattle.language.specs.Pieces.{lay, apart, tok, Role, expr, chain_part, name, word, key, shorthand_key, base, directive_string, tagged_quasi, template_element, spread, property, pattern, pattern_property, element, rest, method, body, statement, item, opening, block, head, declarator, switch_case, handler, class_body, member, script, Piece, sub, put, open_parameters, term, sp, Slot, Spelling, at, only, only_at, is_none, parameters, close_parameters, private_name, module_item, specifier, default_item, sign, feed}
use Rattle.language.specs.Expressions.{yields, expressions, binary_ways, logical_ways, arguments, arrow_end, chain_parts, methods, keyed, chain_element, member_link, call_link, first_has_optional, properties, shorthand_pattern, pattern_properties, arrow_words, method_words, value_form, arrow_opening, arrow_closing}
use Rattle.language.specs.Statements.{statements, items, openings, members, class_keyed, fields, static_word, imports, module_items, specifiers, from_source, braces, end_of, prologue, module_prologue}
use Rattle.language.specs.Grammar.{spellings, starts}
use Rattle.language.specs.Laws.{two_ways_at, has_two_ways}
use Rattle.language.proofs.table.OperatorFacts.{binding}
use Rattle.language.proofs.table.Ranks.{looser_new, looser_refl}
use Rattle.language.specs.declared.Edge.TheVariants.{Closed}
use Rattle.tree.specs.Uses.{is_empty}
use Rattle.language.specs.RowPositions.{roles}
use Rattle.language.specs.LayoutFits.{lines_up}
use Rattle.language.proofs.table.Alike.{AllLike, at_expressions, AlikeAnywhere, standing_at, lines_alike, words_alike, stay_alike}
use Rattle.language.proofs.table.TreesOfWords.{name_stays, names_stay}
use Rattle.language.proofs.layout.PunctuatorsApart.{open_word, close_word, open_brace, close_brace, comma_word}
use Rattle.language.proofs.layout.WordsApart.{from_word}
use Rattle.language.proofs.table.TreesOfWords.{PieceWords}
use Rattle.language.proofs.table.Alike.{same as same_like, end as end_like, next as next_like}
use Rattle.language.proofs.table.LooserPositions.{Looser, same, looser, looser_spine, looser_pattern, end, next, AllLooser}
use Rattle.language.proofs.lower_bound.Domination.{Tidy, none_at_all, one_way, two_ways, Covers, fits, fits-looser, roles-looser, slot-looser, settled}

pub Tidy-cond : {t : Bool} (b : Bool) (xs ys : List Spelling) → Tidy t xs → Tidy t ys → Tidy t (cond b xs ys)
Tidy-cond true xs ys h k = h
Tidy-cond false xs ys h k = k

pub Tidy-only : {t : Bool} (qs : List Piece) → Tidy t (only qs)
Tidy-only qs = one_way (λ e. omega arith)

-- no spelling, or one, at another symbol than New
abbrev sole : List Spelling → Bool
sole [] = true
sole (x ∷ []) = not (nat_eq (precedence x.rank) 19)
sole (x ∷ y ∷ xs) = false

Tidy-sole : {t : Bool} (xs : List Spelling) → sole xs ≡ true → Tidy t xs
Tidy-sole [] h = none_at_all
Tidy-sole (x ∷ []) h = one_way (λ e. not_new (precedence x.rank) h e)
  where
    not_new : (n : ℕ) → not (nat_eq n 19) ≡ true → n ≡ 19 → ⊥
    not_new n h e = grind (arith, nat_tests)
Tidy-sole (x ∷ y ∷ xs) h = cc

abbrev pub new_with : List Piece
new_with = term "new" ∷ sp ∷ put (expr Member true Any) ∷ arguments none

abbrev pub new_without : List Piece
new_without = term "new" ∷ sp ∷ put (expr New true Any) ∷ []

pub new-starts : (f : Start) → IsTrue (starts f new_with)
new-starts Any = refl
new-starts NoBrace = refl
new-starts Statement = refl

pub new-fits : {a c : Role} → Looser a c → IsTrue (fits a (at New new_without)) → IsTrue (fits c (at Member new_with))
new-fits {a = expr y i f} same h = let (p, q) = and_parts _ _ h in let (p1, p2) = and_parts _ _ p in
    and_from _ _ (and_from _ _ (looser_new (precedence y) (precedence y) (looser_refl (precedence y)) p1) (and_from _ _ refl (new-starts f))) refl
new-fits {a = pattern b f} same h = and_from _ _ (new-starts f) refl
new-fits {a = _} same h = refl
new-fits (looser {y = y} {z = z} {g = g} u v w) h = let (p, q) = and_parts _ _ h in let (p1, p2) = and_parts _ _ p in
    and_from _ _ (and_from _ _ (looser_new (precedence y) (precedence z) u p1) (and_from _ _ refl (new-starts g))) refl
new-fits (looser_spine w) h = refl
new-fits (looser_pattern {g = g} w) h = and_from _ _ (new-starts g) refl

pub new-covers : Covers (at Member new_with) (at New new_without)
new-covers a c l h = (new-fits l h, next (looser refl refl refl) end)

pub new-alike : AlikeAnywhere (at Member new_with) (at New new_without)
new-alike b a c = record { roles = next_like at_expressions end_like; lines = lines; words = λ h. (h.0, tt); words_back = λ h. (h.0, (open_word, (close_word, tt))); stay = λ t. refl }
  where
    lines : (ps : Parts) → lines_up (standing_at a new_with) ps ≡ lines_up (standing_at c new_without) ps
    lines none = refl
    lines (gap ps) = refl
    lines (part n ps) = refl

pub Tidy-new : (ps : Parts) → Tidy (is_none ps) (at Member (term "new" ∷ sp ∷ put (expr Member true Any) ∷ arguments ps) ∷ cond (is_none ps) (at New new_without ∷ []) [])
Tidy-new none = two_ways (λ e. omega arith) new-covers new-alike
Tidy-new (part n ps) = one_way (λ e. omega arith)
Tidy-new (gap ps) = one_way (λ e. omega arith)

abbrev pub bare_arrow : Form → Flags → List Piece
bare_arrow x g = arrow_words x ++ put name ∷ arrow_end g

abbrev pub closed_arrow : Form → Flags → Piece → List Piece
closed_arrow x g q = arrow_words x ++ arrow_opening x ∷ put name ∷ q ∷ arrow_closing x ∷ arrow_end g

abbrev pub comma : Piece
comma = Rattle.language.specs.Pieces.may (Rattle.std.specs.Prelude.codes ",")

pub arrow-fits : (x : Form) (c : Role) (g : Flags) → IsTrue (fits c (at Assignment (closed_arrow x g comma))) → IsTrue (fits c (at Assignment (bare_arrow x g)))
arrow-fits Init (expr y i Any) g h = h
arrow-fits Init (expr y i NoBrace) g h = h
arrow-fits Init (expr y i Statement) g h = h
arrow-fits Init (pattern b Any) g h = h
arrow-fits Init (pattern b NoBrace) g h = h
arrow-fits Init (pattern b Statement) g h = h
arrow-fits Init _ g h = h
arrow-fits Async (expr y i Any) g h = h
arrow-fits Async (expr y i NoBrace) g h = h
arrow-fits Async (expr y i Statement) g h = h
arrow-fits Async (pattern b Any) g h = h
arrow-fits Async (pattern b NoBrace) g h = h
arrow-fits Async (pattern b Statement) g h = h
arrow-fits Async _ g h = h
arrow-fits _ (expr y i Any) g h = h
arrow-fits _ (expr y i NoBrace) g h = h
arrow-fits _ (expr y i Statement) g h = h
arrow-fits _ (pattern b Any) g h = h
arrow-fits _ (pattern b NoBrace) g h = h
arrow-fits _ (pattern b Statement) g h = h
arrow-fits _ _ g h = h

arrow-roles : (x : Form) (g : Flags) {a c : Role} → Looser a c → AllLooser (roles (settled a (at Assignment (closed_arrow x g comma)))) (roles (settled c (at Assignment (bare_arrow x g))))
arrow-roles Init g l = next (slot-looser (Slot.fixed name) l) (roles-looser (arrow_end g) l)
arrow-roles Async g l = next (slot-looser (Slot.fixed name) l) (roles-looser (arrow_end g) l)
arrow-roles _ g l = next (slot-looser (Slot.fixed name) l) (roles-looser (arrow_end g) l)

pub arrow-covers : (x : Form) (g : Flags) → Covers (at Assignment (bare_arrow x g)) (at Assignment (closed_arrow x g comma))
arrow-covers x g a c l h = (arrow-fits x c g (fits-looser (at Assignment (closed_arrow x g comma)) (λ e. omega arith) l h), arrow-roles x g l)

pub arrow-alike : (x : Form) (g : Flags) → AlikeAnywhere (at Assignment (bare_arrow x g)) (at Assignment (closed_arrow x g comma))
arrow-alike x g b a c = record { roles = names x; lines = lines x; words = words x; words_back = words_back x; stay = stays x }
  where
    ends : (t : Bool) → AllLike b (roles (standing_at a (arrow_end (record g { expression = t })))) (roles (standing_at c (arrow_end (record g { expression = t }))))
    ends true = next_like at_expressions end_like
    ends false = next_like same_like end_like

    names : (x : Form) → AllLike b (roles (standing_at a (bare_arrow x g))) (roles (standing_at c (closed_arrow x g comma)))
    names Init = next_like same_like (ends g.expression)
    names Async = next_like same_like (ends g.expression)
    names _ = next_like same_like (ends g.expression)

    lines : (x : Form) (ps : Parts) → lines_up (standing_at a (bare_arrow x g)) ps ≡ lines_up (standing_at c (closed_arrow x g comma)) ps
    lines Init none = refl
    lines Init (gap ps) = refl
    lines Init (part n ps) = lines_alike a c (arrow_end g) ps
    lines Async none = refl
    lines Async (gap ps) = refl
    lines Async (part n ps) = lines_alike a c (arrow_end g) ps
    lines _ none = refl
    lines _ (gap ps) = refl
    lines _ (part n ps) = lines_alike a c (arrow_end g) ps

    words : (x : Form) → PieceWords (standing_at a (bare_arrow x g)) → PieceWords (standing_at c (closed_arrow x g comma))
    words Init h = words_alike a c (arrow_end g) h
    words Async h = (h.0, (open_word, (close_word, words_alike a c (arrow_end g) h.1)))
    words _ h = words_alike a c (arrow_end g) h

    words_back : (x : Form) → PieceWords (standing_at c (closed_arrow x g comma)) → PieceWords (standing_at a (bare_arrow x g))
    words_back Init h = words_alike c a (arrow_end g) h
    words_back Async h = (h.0, words_alike c a (arrow_end g) h.1.1.1)
    words_back _ h = words_alike c a (arrow_end g) h

    stays : (x : Form) (told : Bool) → names_stay told (standing_at a (bare_arrow x g)) ≡ names_stay told (standing_at c (closed_arrow x g comma))
    stays Init told = stay_alike told a c (arrow_end g)
    stays Async told = ap (λ b. name_stays told IdentifierName (Rattle.std.specs.Prelude.codes "async") && b) (stay_alike told a c (arrow_end g))
    stays _ told = stay_alike told a c (arrow_end g)

pub Tidy-arrow : (g : Flags) (ps : Parts) → Tidy (two_ways_at ArrowFunctionExpression ps) (Rattle.language.specs.Expressions.op_arrow g ps)
Tidy-arrow g none = one_way (λ e. omega arith)
Tidy-arrow g (gap ps) = one_way (λ e. omega arith)
Tidy-arrow g (part n none) = one_way (λ e. omega arith)
Tidy-arrow g (part n (gap ps)) = one_way (λ e. omega arith)
Tidy-arrow g (part n (part b (part m ps))) = one_way (λ e. omega arith)
Tidy-arrow g (part n (part b (gap ps))) = one_way (λ e. omega arith)
Tidy-arrow g (part (node Identifier w h s e qs) (part b none)) = two_ways (λ x. omega arith) (arrow-covers g.form g) (arrow-alike g.form g)
Tidy-arrow g (part (node _ w h s e qs) (part b none)) = one_way (λ x. omega arith)

-- the symbol of an operator isn't `New`
binds_old : (w : List ℕ) {l : Bool} {z q : Rank} → operator_of w ≡ op_binary l z q → precedence z ≡ 19 → ⊥
binds_old w e h = let u = binding w e in let v = u.rises.0 in let x = u.most in omega arith

pub Tidy-binary : {t : Bool} (w : List ℕ) (o : Operator) → operator_of w ≡ o → Tidy t (binary_ways w o)
Tidy-binary w (op_binary true z q) h = none_at_all
Tidy-binary w (op_binary false z q) h = one_way (binds_old w h)
Tidy-binary w op_power h = one_way (λ e. omega arith)
Tidy-binary w _ h = none_at_all

pub Tidy-logical : {t : Bool} (w : List ℕ) (o : Operator) → operator_of w ≡ o → Tidy t (logical_ways w o)
Tidy-logical w (op_binary false z q) h = none_at_all
Tidy-logical w (op_binary true z q) h = one_way (binds_old w h)
Tidy-logical w _ h = none_at_all

pub Tidy-assignment : {t : Bool} (a b : Bool) (qs rs : List Piece) → Tidy t (cond a (at Assignment qs ∷ []) (cond b (at Assignment rs ∷ []) []))
Tidy-assignment true b qs rs = one_way (λ e. omega arith)
Tidy-assignment false true qs rs = one_way (λ e. omega arith)
Tidy-assignment false false qs rs = none_at_all

pub Tidy-yields : {t : Bool} (x : Form) (ps : Parts) → Tidy t (yields x ps)
Tidy-yields form.Init (gap none) = one_way (λ e. omega arith)
Tidy-yields form.Init (part n none) = one_way (λ e. omega arith)
Tidy-yields form.Generator (part n none) = one_way (λ e. omega arith)
Tidy-yields _ ps = none_at_all

-- a meta property
abbrev two_words : Spelling
two_words = at Member (put word ∷ sign "." ∷ put word ∷ [])

Tidy-expressions : (k : Kind) (w : List ℕ) (g : Flags) (ps : Parts) → Tidy (two_ways_at k ps) (expressions k w g ps)
unfolding expressions
Tidy-expressions Identifier w g ps = Tidy-cond _ _ _ none_at_all (one_way (λ e. omega arith))
Tidy-expressions Literal w g ps = Tidy-cond _ _ _ none_at_all (one_way (λ e. omega arith))
Tidy-expressions ArrowFunctionExpression w g ps = Tidy-arrow g ps
Tidy-expressions MemberExpression w g ps = Tidy-cond _ _ _ none_at_all (Tidy-cond _ _ _ (one_way (λ e. omega arith)) (one_way (λ e. omega arith)))
Tidy-expressions CallExpression w g ps = Tidy-cond _ _ _ none_at_all (Tidy-cond _ _ _ (one_way (λ e. omega arith)) (one_way (λ e. omega arith)))
Tidy-expressions NewExpression w g ps = Tidy-new (others ps)
Tidy-expressions MetaProperty w g ps = Tidy-cond _ _ _ (one_way {x = two_words} (λ e. omega arith)) (Tidy-cond _ _ _ (one_way {x = two_words} (λ e. omega arith)) none_at_all)
Tidy-expressions ChainExpression w g ps = Tidy-cond _ _ _ (one_way (λ e. omega arith)) none_at_all
Tidy-expressions YieldExpression w g ps = Tidy-yields g.form ps
Tidy-expressions UpdateExpression w g ps = Tidy-cond _ _ _ none_at_all (Tidy-cond _ _ _ (one_way (λ e. omega arith)) (one_way (λ e. omega arith)))
Tidy-expressions UnaryExpression w g ps = Tidy-cond _ _ _ none_at_all (Tidy-cond _ _ _ (one_way (λ e. omega arith)) (one_way (λ e. omega arith)))
Tidy-expressions BinaryExpression w g ps = Tidy-cond _ _ _ (Tidy-cond _ _ _ (one_way (λ e. omega arith)) none_at_all) (Tidy-binary w (operator_of w) refl)
Tidy-expressions LogicalExpression w g ps = Tidy-logical w (operator_of w) refl
Tidy-expressions AssignmentExpression w g ps = Tidy-cond _ _ _ none_at_all (Tidy-assignment (is_target (lead ps)) (is w "=" && is_pattern (lead ps)) _ _)
Tidy-expressions SequenceExpression w g ps = Tidy-cond _ _ _ none_at_all (one_way (λ e. omega arith))
Tidy-expressions k w g ps = Tidy-sole (expressions k w g ps) refl

abbrev pub Tidy-if : {t : Bool} (b : Bool) (qs : List Piece) → Tidy t (cond b (only qs) [])
Tidy-if b qs = Tidy-cond b (only qs) [] (Tidy-only qs) none_at_all

abbrev pub Tidy-unless : {t : Bool} (b : Bool) (qs : List Piece) → Tidy t (cond b [] (only qs))
Tidy-unless b qs = Tidy-cond b [] (only qs) none_at_all (Tidy-only qs)

pub Tidy-at : {t : Bool} (a : Option Role) (qs : List Piece) → Tidy t (only_at a qs)
Tidy-at (Some a) qs = Tidy-only _
Tidy-at None qs = none_at_all

pub Tidy-keyed : {t : Bool} (before : List Piece) (c : Bool) (after : List Piece) → Tidy t (keyed before c after)
Tidy-keyed before c after = Tidy-cond c _ _ (Tidy-only _) (Tidy-only _)

pub Tidy-linked : {t : Bool} (b : Bool) (ps : Parts) (qs : List Piece) → Tidy t (chain_element b ps qs)
Tidy-linked b ps qs = Tidy-cond (first_has_optional ps) _ _ (Tidy-only _) (Tidy-if b _)

pub Tidy-statements : {t : Bool} (r : Bool) (k : Kind) (w : List ℕ) (g : Flags) (ps : Parts) → Tidy t (statements r k w g ps)
unfolding statements
Tidy-statements r VariableDeclaration w g ps = Tidy-if _ _
Tidy-statements r ExpressionStatement w g ps = Tidy-unless _ _
Tidy-statements r IfStatement w g none = none_at_all
Tidy-statements r IfStatement w g (gap ps) = none_at_all
Tidy-statements r IfStatement w g (part t none) = none_at_all
Tidy-statements r IfStatement w g (part t (gap ps)) = none_at_all
Tidy-statements r IfStatement w g (part t (part c none)) = none_at_all
Tidy-statements r IfStatement w g (part t (part c (gap none))) = Tidy-only _
Tidy-statements r IfStatement w g (part t (part c (gap (part n ps)))) = none_at_all
Tidy-statements r IfStatement w g (part t (part c (gap (gap ps)))) = none_at_all
Tidy-statements r IfStatement w g (part t (part c (part a none))) = Tidy-unless _ _
Tidy-statements r IfStatement w g (part t (part c (part a (part n ps)))) = none_at_all
Tidy-statements r IfStatement w g (part t (part c (part a (gap ps)))) = none_at_all
Tidy-statements r ReturnStatement w g ps = Tidy-if _ _
Tidy-statements r SwitchStatement w g ps = Tidy-if _ _
Tidy-statements r TryStatement w g (part b (part h (gap none))) = Tidy-only _
Tidy-statements r TryStatement w g (part b (part h (part f none))) = Tidy-only _
Tidy-statements r TryStatement w g (part b (gap (part f none))) = Tidy-only _
Tidy-statements r TryStatement w g _ = none_at_all
Tidy-statements r k w g ps = Tidy-sole (statements r k w g ps) refl

pub Tidy-items : {t : Bool} (r : Bool) (k : Kind) (w : List ℕ) (g : Flags) (ps : Parts) → Tidy t (items r k w g ps)
unfolding items
Tidy-items r FunctionDeclaration w g (part n ps) = Tidy-only _
Tidy-items r FunctionDeclaration w g _ = none_at_all
Tidy-items r ClassDeclaration w g (part n ps) = Tidy-only _
Tidy-items r ClassDeclaration w g _ = none_at_all
Tidy-items r VariableDeclaration w g ps = Tidy-if _ _
Tidy-items r k w g ps = Tidy-statements r k w g ps

pub Tidy-openings : {t : Bool} (r : Bool) (k : Kind) (w : List ℕ) (g : Flags) (ps : Parts) → Tidy t (openings r k w g ps)
unfolding openings
Tidy-openings r ExpressionStatement w g ps = Tidy-cond _ _ _ (Tidy-if _ _) (Tidy-cond _ _ _ (Tidy-only _) (Tidy-only _))
Tidy-openings r k w g ps = Tidy-items r k w g ps

pub Tidy-methods : {t : Bool} (x : Form) (ps : Parts) → Tidy t (methods x ps)
Tidy-methods Get (gap (part b none)) = Tidy-only _
Tidy-methods Get _ = none_at_all
Tidy-methods Set (gap (part n (part b none))) = Tidy-unless _ _
Tidy-methods Set _ = none_at_all
Tidy-methods _ (gap ps) = Tidy-only _
Tidy-methods _ _ = none_at_all

pub Tidy-properties : {t : Bool} (c : Bool) (x y : Form) → Tidy t (properties c x y)
Tidy-properties c Init y = Tidy-keyed [] c _
Tidy-properties c Method y = Tidy-keyed (method_words y) c _
Tidy-properties c Get y = Tidy-keyed (term "get" ∷ sp ∷ []) c (put (method Get) ∷ [])
Tidy-properties c Set y = Tidy-keyed (term "set" ∷ sp ∷ []) c (put (method Set) ∷ [])
Tidy-properties c Shorthand y = Tidy-unless _ _
Tidy-properties c _ y = none_at_all

pub Tidy-shorthand : {t : Bool} (k : Kind) → Tidy t (shorthand_pattern k)
Tidy-shorthand Identifier = Tidy-only _
Tidy-shorthand AssignmentPattern = Tidy-only _
Tidy-shorthand _ = none_at_all

pub Tidy-pattern_properties : {t : Bool} (b c : Bool) (x : Form) (k : Kind) → Tidy t (pattern_properties b c x k)
Tidy-pattern_properties b c Init k = Tidy-keyed [] c _
Tidy-pattern_properties b c Shorthand k = Tidy-cond _ _ _ none_at_all (Tidy-shorthand k)
Tidy-pattern_properties b c _ k = none_at_all

pub Tidy-class_keyed : {t : Bool} (before : List Piece) (c : Bool) (k : Kind) (after : List Piece) → Tidy t (class_keyed before c k after)
Tidy-class_keyed before c k after = Tidy-cond c _ _ (Tidy-only _) (Tidy-only _)

pub Tidy-members : {t : Bool} (before : List Piece) (c : Bool) (x y : Form) (k : Kind) → Tidy t (members before c x y k)
Tidy-members before c Get y k = Tidy-class_keyed (before ++ term "get" ∷ sp ∷ []) c k (put (method Get) ∷ [])
Tidy-members before c Set y k = Tidy-class_keyed (before ++ term "set" ∷ sp ∷ []) c k (put (method Set) ∷ [])
Tidy-members before c _ y k = Tidy-class_keyed (before ++ method_words y) c k _

pub Tidy-fields : {t : Bool} (g : Flags) (ps : Parts) → Tidy t (fields g ps)
Tidy-fields g (part n (gap none)) = Tidy-class_keyed (static_word g.is_static) g.computed _ _
Tidy-fields g (part n (part v none)) = Tidy-class_keyed (static_word g.is_static) g.computed _ _
Tidy-fields g _ = none_at_all

-- An import of no names: alone, or with empty braces
abbrev pub import_alone : List Piece
import_alone = term "import" ∷ sp ∷ put directive_string ∷ end_of Closed ∷ []

abbrev pub import_nothing : List Piece
import_nothing = term "import" ∷ sp ∷ braces ++ from_source

abbrev pub import_default : List Piece
import_default = term "import" ∷ sp ∷ put specifier ∷ from_source

abbrev pub import_default_nothing : List Piece
import_default_nothing = term "import" ∷ sp ∷ put specifier ∷ sign "," ∷ sp ∷ braces ++ from_source

-- both can run, and no start forbids either
pub import-covers : Covers (at Primary import_alone) (at Primary import_nothing)
import-covers a c l h = (fits-looser (at Primary import_alone) (λ e. omega arith) l (alone a h), next (slot-looser (Slot.fixed directive_string) l) end)
  where
    alone : (a : Role) → IsTrue (fits a (at Primary import_nothing)) → IsTrue (fits a (at Primary import_alone))
    alone (expr y i Any) h = h
    alone (expr y i NoBrace) h = h
    alone (expr y i Statement) h = h
    alone (pattern b Any) h = h
    alone (pattern b NoBrace) h = h
    alone (pattern b Statement) h = h
    alone _ h = h

from_stays : (told : Bool) → (name_stays told IdentifierName (Rattle.std.specs.Prelude.codes "from") && true) ≡ true
unfolding is_keyword
from_stays true = refl
from_stays false = refl

pub import-alike : AlikeAnywhere (at Primary import_alone) (at Primary import_nothing)
import-alike b a c = record { roles = next_like same_like end_like; lines = lines; words = λ h. (h.0, (open_brace, (close_brace, (from_word, tt)))); words_back = λ h. (h.0, tt); stay = λ t. ap (λ b. name_stays t IdentifierName (Rattle.std.specs.Prelude.codes "import") && b) (sym (from_stays t)) }
  where
    lines : (ps : Parts) → lines_up (standing_at a import_alone) ps ≡ lines_up (standing_at c import_nothing) ps
    lines none = refl
    lines (gap ps) = refl
    lines (part n ps) = refl

pub default-covers : Covers (at Primary import_default) (at Primary import_default_nothing)
default-covers a c l h = (fits-looser (at Primary import_default) (λ e. omega arith) l (alone a h), next (slot-looser (Slot.fixed specifier) l) (next (slot-looser (Slot.fixed directive_string) l) end))
  where
    alone : (a : Role) → IsTrue (fits a (at Primary import_default_nothing)) → IsTrue (fits a (at Primary import_default))
    alone (expr y i Any) h = h
    alone (expr y i NoBrace) h = h
    alone (expr y i Statement) h = h
    alone (pattern b Any) h = h
    alone (pattern b NoBrace) h = h
    alone (pattern b Statement) h = h
    alone _ h = h

pub default-alike : AlikeAnywhere (at Primary import_default) (at Primary import_default_nothing)
default-alike b a c = record { roles = next_like same_like (next_like same_like end_like); lines = lines; words = λ h. (h.0, (comma_word, (open_brace, (close_brace, h.1)))); words_back = λ h. (h.0, h.1.1.1.1); stay = λ t. refl }
  where
    lines : (ps : Parts) → lines_up (standing_at a import_default) ps ≡ lines_up (standing_at c import_default_nothing) ps
    lines none = refl
    lines (gap ps) = refl
    lines (part n none) = refl
    lines (part n (gap ps)) = refl
    lines (part n (part m ps)) = refl

pub Tidy-imports : (ps : Parts) → Tidy (two_ways_at ImportDeclaration ps) (imports (lead ps) ps)
Tidy-imports none = none_at_all
Tidy-imports (gap ps) = none_at_all
Tidy-imports (part (node Literal w g s e qs) none) = two_ways (λ x. omega arith) import-covers import-alike
Tidy-imports (part (node Literal w g s e qs) (part m ps)) = none_at_all
Tidy-imports (part (node Literal w g s e qs) (gap ps)) = none_at_all
Tidy-imports (part (node ImportNamespaceSpecifier w g s e qs) none) = none_at_all
Tidy-imports (part (node ImportNamespaceSpecifier w g s e qs) (part m none)) = Tidy-only _
Tidy-imports (part (node ImportNamespaceSpecifier w g s e qs) (part m (part l ps))) = none_at_all
Tidy-imports (part (node ImportNamespaceSpecifier w g s e qs) (part m (gap ps))) = none_at_all
Tidy-imports (part (node ImportNamespaceSpecifier w g s e qs) (gap ps)) = none_at_all
Tidy-imports (part (node ImportSpecifier w g s e qs) none) = Tidy-only _
Tidy-imports (part (node ImportSpecifier w g s e qs) (part m none)) = Tidy-only _
Tidy-imports (part (node ImportSpecifier w g s e qs) (part m (part l ps))) = Tidy-only _
Tidy-imports (part (node ImportSpecifier w g s e qs) (part m (gap ps))) = Tidy-only _
Tidy-imports (part (node ImportSpecifier w g s e qs) (gap ps)) = Tidy-only _
Tidy-imports (part (node ImportDefaultSpecifier w g s e qs) ps) = of ps
  where
    of : (ps : Parts) → Tidy (two_ways_at ImportDeclaration (part (node ImportDefaultSpecifier w g s e qs) ps)) (imports ImportDefaultSpecifier (part (node ImportDefaultSpecifier w g s e qs) ps))
    of none = none_at_all
    of (gap ps) = none_at_all
    of (part (node ImportNamespaceSpecifier v f t u rs) none) = none_at_all
    of (part (node ImportNamespaceSpecifier v f t u rs) (part m none)) = Tidy-only _
    of (part (node ImportNamespaceSpecifier v f t u rs) (part m (part l ps))) = none_at_all
    of (part (node ImportNamespaceSpecifier v f t u rs) (part m (gap ps))) = none_at_all
    of (part (node ImportNamespaceSpecifier v f t u rs) (gap ps)) = none_at_all
    of (part (node ImportSpecifier v f t u rs) none) = Tidy-only _
    of (part (node ImportSpecifier v f t u rs) (part m ps)) = Tidy-only _
    of (part (node ImportSpecifier v f t u rs) (gap ps)) = Tidy-only _
    of (part (node Literal v f t u rs) none) = two_ways (λ x. omega arith) default-covers default-alike
    of (part (node Literal v f t u rs) (part m ps)) = none_at_all
    of (part (node Literal v f t u rs) (gap ps)) = none_at_all
    of (part (node _ v f t u rs) none) = none_at_all
    of (part (node _ v f t u rs) (part m ps)) = none_at_all
    of (part (node _ v f t u rs) (gap ps)) = none_at_all
Tidy-imports (part (node _ w g s e qs) none) = none_at_all
Tidy-imports (part (node _ w g s e qs) (part m none)) = none_at_all
Tidy-imports (part (node _ w g s e qs) (part m (part l ps))) = none_at_all
Tidy-imports (part (node _ w g s e qs) (part m (gap ps))) = none_at_all
Tidy-imports (part (node _ w g s e qs) (gap ps)) = none_at_all

pub Tidy-module_items : (k : Kind) (ps : Parts) → Tidy (two_ways_at k ps) (module_items k ps)
Tidy-module_items ImportDeclaration ps = Tidy-imports ps
Tidy-module_items ExportNamedDeclaration (part d (gap none)) = Tidy-only _
Tidy-module_items ExportNamedDeclaration (gap ps) = Tidy-only _
Tidy-module_items ExportNamedDeclaration _ = none_at_all
Tidy-module_items ExportDefaultDeclaration (part d none) = Tidy-only _
Tidy-module_items ExportDefaultDeclaration _ = none_at_all
Tidy-module_items ExportAllDeclaration (gap (part x none)) = Tidy-only _
Tidy-module_items ExportAllDeclaration (part n (part x none)) = Tidy-only _
Tidy-module_items ExportAllDeclaration _ = none_at_all
Tidy-module_items _ ps = none_at_all

pub Tidy-specifiers : {t : Bool} (k : Kind) (x : Form) (ps : Parts) → Tidy t (specifiers k x ps)
Tidy-specifiers ImportDefaultSpecifier x (part n none) = Tidy-only _
Tidy-specifiers ImportDefaultSpecifier x _ = none_at_all
Tidy-specifiers ImportNamespaceSpecifier x (part n none) = Tidy-only _
Tidy-specifiers ImportNamespaceSpecifier x _ = none_at_all
Tidy-specifiers ImportSpecifier Shorthand (part n none) = Tidy-only _
Tidy-specifiers ImportSpecifier Init (part m (part n none)) = Tidy-only _
Tidy-specifiers ImportSpecifier _ _ = none_at_all
Tidy-specifiers ExportSpecifier Shorthand (part n none) = Tidy-only _
Tidy-specifiers ExportSpecifier Init (part m (part n none)) = Tidy-only _
Tidy-specifiers ExportSpecifier _ _ = none_at_all
Tidy-specifiers _ x ps = none_at_all

pub tidy_table : (a : Role) (n : Tree) → Tidy (has_two_ways n) (spellings a n)
unfolding spellings
tidy_table (expr y i f) (node k w g s e ps) = Tidy-expressions k w g ps
tidy_table (chain_part f) (node MemberExpression w g s e ps) = Tidy-linked g.optional ps (member_link g (lead (others ps)))
tidy_table (chain_part f) (node CallExpression w g s e ps) = Tidy-linked g.optional ps (call_link g ps)
tidy_table (chain_part f) (node _ w g s e ps) = none_at_all
tidy_table name (node Identifier w g s e ps) = Tidy-unless _ _
tidy_table name (node _ w g s e ps) = none_at_all
tidy_table word (node Identifier w g s e ps) = Tidy-only _
tidy_table word (node _ w g s e ps) = none_at_all
tidy_table private_name (node PrivateIdentifier w g s e ps) = Tidy-only _
tidy_table private_name (node _ w g s e ps) = none_at_all
tidy_table key (node Identifier w g s e ps) = Tidy-only _
tidy_table key (node Literal w g s e ps) = Tidy-unless _ _
tidy_table key (node _ w g s e ps) = none_at_all
tidy_table shorthand_key (node Identifier w g s e ps) = Tidy-only _
tidy_table shorthand_key (node _ w g s e ps) = none_at_all
tidy_table base (node Super w g s e ps) = Tidy-only _
tidy_table base (node _ w g s e ps) = none_at_all
tidy_table directive_string (node Literal w g s e ps) = Tidy-if _ _
tidy_table directive_string (node _ w g s e ps) = none_at_all
tidy_table tagged_quasi (node TemplateLiteral w g s e ps) = Tidy-only _
tidy_table tagged_quasi (node _ w g s e ps) = none_at_all
tidy_table (template_element x y) (node TemplateElement w g s e ps) = Tidy-only _
tidy_table (template_element x y) (node _ w g s e ps) = none_at_all
tidy_table spread (node SpreadElement w g s e ps) = Tidy-only _
tidy_table spread (node _ w g s e ps) = none_at_all
tidy_table property (node Property w g s e ps) = Tidy-properties g.computed g.form (value_form ps)
tidy_table property (node _ w g s e ps) = none_at_all
tidy_table (pattern b f) (node ArrayPattern w g s e ps) = Tidy-only _
tidy_table (pattern b f) (node ObjectPattern w g s e ps) = Tidy-only _
tidy_table (pattern b f) (node _ w g s e ps) = none_at_all
tidy_table (pattern_property b) (node Property w g s e ps) = Tidy-pattern_properties b g.computed g.form (lead (others ps))
tidy_table (pattern_property b) (node _ w g s e ps) = none_at_all
tidy_table (element b) (node AssignmentPattern w g s e ps) = Tidy-at _ _
tidy_table (element b) (node _ w g s e ps) = none_at_all
tidy_table (rest b o) (node RestElement w g s e ps) = Tidy-unless _ _
tidy_table (rest b o) (node _ w g s e ps) = none_at_all
tidy_table (method x) (node FunctionExpression w g s e ps) = Tidy-cond _ _ _ (Tidy-methods x ps) none_at_all
tidy_table (method x) (node _ w g s e ps) = none_at_all
tidy_table body (node BlockStatement w g s e ps) = Tidy-only _
tidy_table body (node _ w g s e ps) = none_at_all
tidy_table (statement r) (node k w g s e ps) = Tidy-statements r k w g ps
tidy_table (item r) (node k w g s e ps) = Tidy-items r k w g ps
tidy_table (opening r) (node k w g s e ps) = Tidy-openings r k w g ps
tidy_table (block r) (node BlockStatement w g s e ps) = Tidy-only _
tidy_table (block r) (node _ w g s e ps) = none_at_all
tidy_table (head b) (node VariableDeclaration w g s e ps) = Tidy-if _ _
tidy_table (head b) (node _ w g s e ps) = none_at_all
tidy_table (declarator i b) (node VariableDeclarator w g s e (part n (part x none))) = Tidy-cond _ _ _ (Tidy-at _ _) none_at_all
tidy_table (declarator i b) (node VariableDeclarator w g s e (part n (gap none))) = Tidy-cond _ _ _ none_at_all (Tidy-at _ _)
tidy_table (declarator i b) (node _ w g s e ps) = none_at_all
tidy_table (switch_case r) (node SwitchCase w g s e (part t ps)) = Tidy-only _
tidy_table (switch_case r) (node SwitchCase w g s e (gap ps)) = Tidy-only _
tidy_table (switch_case r) (node _ w g s e ps) = none_at_all
tidy_table (handler r) (node CatchClause w g s e (part p ps)) = Tidy-only _
tidy_table (handler r) (node CatchClause w g s e (gap ps)) = Tidy-only _
tidy_table (handler r) (node _ w g s e ps) = none_at_all
tidy_table class_body (node ClassBody w g s e ps) = Tidy-only _
tidy_table class_body (node _ w g s e ps) = none_at_all
tidy_table member (node MethodDefinition w g s e ps) = Tidy-cond _ (members (static_word g.is_static) g.computed g.form (value_form ps) (lead ps)) [] (Tidy-members (static_word g.is_static) g.computed g.form (value_form ps) (lead ps)) none_at_all
tidy_table member (node PropertyDefinition w g s e ps) = Tidy-fields g ps
tidy_table member (node StaticBlock w g s e ps) = Tidy-only _
tidy_table member (node _ w g s e ps) = none_at_all
tidy_table module_item (node k w g s e ps) = Tidy-module_items k ps
tidy_table specifier (node k w g s e ps) = Tidy-specifiers k g.form ps
tidy_table default_item (node FunctionDeclaration w g s e ps) = Tidy-only _
tidy_table default_item (node ClassDeclaration w g s e ps) = Tidy-only _
tidy_table default_item (node _ w g s e ps) = none_at_all
tidy_table script (node Program w g s e ps) =
    Tidy-cond (is_empty w || is w "2022") (only (prologue false true [] (lay feed ∷ []) ps ++ tok TokenClass.End [] ∷ [])) (cond (is w "module") (only (module_prologue true ps ++ tok TokenClass.End [] ∷ [])) [])
    (Tidy-only _) (Tidy-if (is w "module") _)
tidy_table script (node _ w g s e ps) = none_at_all
