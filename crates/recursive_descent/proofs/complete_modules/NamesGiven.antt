-- Names and strings that are given where imports and exports have them, against the token that is read there (ECMA-262, 13th edition, 16.2).
use Rattle.std.proofs.Common.{◌≡◌, ℕ, ◌≤◌, Bool, true, false, cond, List, [], ◌∷◌, ◌++◌, Result, Ok, Err, refl, sym, ap, ◌∙◌, subst}
use Rattle.std.specs.Prelude.{IfOk, not, ◌&&◌}
use Rattle.std.proofs.lemmas.Bool.{false≢true}
use Rattle.std.proofs.lemmas.List.{append-nil}
use Rattle.source_text.specs.declared.fault.Fault.{Fault}
use Rattle.tokens.specs.declared.token.TokenClass.{TokenClass}
use Rattle.tokens.specs.declared.token.TokenClass.TheVariants.{IdentifierName, StringLiteral, Keyword}
use Rattle.tokens.specs.declared.token.Goal.TheVariants.{Div}
use Rattle.tokens.specs.Tokens.{LexicalToken}
use Rattle.token_cursor.specs.CursorState.{CursorState}
use Rattle.tree.specs.declared.kind.Kind.{Kind}
use Rattle.tree.specs.declared.kind.Kind.TheVariants.{Identifier, Literal, ImportSpecifier}
use Rattle.tree.specs.declared.kind.Pair.{Pair}
use Rattle.tree.specs.Tree.{Tree, node, none, part, plain, kind_of, height}
use Rattle.productions.specs.Made.{Makes}
use Rattle.language.specs.Vocabulary.{is_identifier, is_reserved}
use Rattle.language.specs.Pieces.{Role, sub, name, word, directive_string}
use Rattle.language.specs.Expressions.{module_name}
use Rattle.language.specs.Token.{Token, as_read, same_class}
use Rattle.language.specs.Promises.{is_free}
use Rattle.language.proofs.list_loops.FirstPieces.{run_none, run_the_part}
use Rattle.language.proofs.climbing.BinaryTurns.{same_node}
use Rattle.language.proofs.climbing.AsExpressions.{quoted_form}
use Rattle.language.specs.Derivation.{Reads, Placed, placed, within, done}
use Rattle.language.proofs.climbing.Leaves.{is_worded, name_form, word_form}
use Rattle.token_cursor.specs.SourceText.{SourceText, SeenNext, behind_in}
use Rattle.token_cursor.specs.Seen.{NameHere, NoName, SeesBy, MissesBy, is_free_name}
use Rattle.token_cursor.proofs.SeenTokens.{seen_determined}
use Rattle.parser_tables.specs.Tokens.{single_node, single_text}
use Rattle.recursive_descent.specs.Soundness.{RunsIn, anywhere}
use Rattle.recursive_descent.specs.Spelled.{SpellsIn}
use Rattle.recursive_descent.specs.Completeness.{Agrees}
use Rattle.recursive_descent.specs.ModuleItems.{names_module, name_kind, is_module_name, is_quoted, ModuleNameComplete, SourceComplete, SecondAt, SecondComplete, SourceAt, ModuleNameAt, binding, BindingAt, BindingComplete}
use Rattle.recursive_descent.proofs.complete_expressions.Agreement.{refuses_made}
use Rattle.recursive_descent.proofs.reading.SeenClasses.{name_place}
use Rattle.recursive_descent.proofs.sound_modules.ModuleNames.{token_text, module_name_runs}
use Rattle.recursive_descent.proofs.sound_statements.TokenSymbols.{name_spelled}

pub named_free : (c : TokenClass) → names_module c ≡ true → is_free c ≡ true
named_free IdentifierName h = refl
named_free Keyword h = refl
named_free StringLiteral h = refl
named_free _ h = absurd (false≢true h)

name_text : (c : TokenClass) (w : List ℕ) → single_text (name_kind c) w ≡ w
name_text StringLiteral w = refl
name_text _ w = refl

worded_names : (c : TokenClass) (w : List ℕ) → is_worded c w ≡ true → (names_module c ≡ true) × (name_kind c ≡ Identifier)
worded_names IdentifierName w h = (refl, refl)
worded_names Keyword w h = (refl, refl)
worded_names _ w h = absurd (false≢true h)

quoted_names : (c : TokenClass) → same_class StringLiteral c ≡ true → names_module c ≡ true
quoted_names StringLiteral h = refl
quoted_names _ h = absurd (false≢true h)

quoted_kind : (c : TokenClass) → same_class StringLiteral c ≡ true → name_kind c ≡ Literal
quoted_kind StringLiteral h = refl
quoted_kind _ h = absurd (false≢true h)

-- what is made of a token is what is given, where that is the same
pub made_agrees : {t n : Tree} {at to : Token} (high : ℕ) (result : Result Tree Fault) → (t ≡ n) × (at ≡ to) → Makes t high result → Agrees (height n ≤ high) (λ m. (m ≡ n) × (at ≡ to)) result
made_agrees high (Ok m) same made = (made.0 ∙ same.0, same.1)
made_agrees {t = t} {n = n} high (Err fault) same made = refuses_made (height n ≤ high) t high fault made (λ w. subst (λ k. height k ≤ high) (sym same.0) w)

pub made_ok : (t : Tree) (high : ℕ) (result : Result Tree Fault) (P : Tree → Type 0) → Makes t high result → P t → IfOk result P
made_ok t high (Ok m) P made h = subst P (sym made.0) h
made_ok t high (Err fault) P made h = tt

module _ (text : SourceText) where
  -- a token of some classes, and its node
  pub record TokenGiven (p : TokenClass → Bool) (n : Tree) (s e : Token) : Type 0 where
    pub token : Token
    pub next : SeenNext text s token e
    pub sort : p token.class ≡ true
    pub names : names_module token.class ≡ true
    pub tree : n ≡ node (name_kind token.class) token.text plain token.start token.stop none

  stop_of_token : {s t e : Token} → SeenNext text s t e → (behind_in text e).stop ≡ t.stop
  stop_of_token {s} {t} {e} next = ap (λ (x : Token). x.stop) ((seen_determined text).last s t e next)

  -- a string
  pub string_given : {o : ℕ} {n : Tree} {s e : Token} {P : List Pair} → SpellsIn text o directive_string n s e P → TokenGiven (same_class StringLiteral) n s e
  string_given {s = s} {e = e} d =
      let q = quoted_form Token (SeenNext text) (behind_in text) (seen_determined text) d in
      let span = of q.reads (subst (λ v. Placed Token (SeenNext text) (behind_in text) directive_string v s e) q.tree q.placed) in
      let sort : same_class StringLiteral q.sign.class ≡ true = ap (same_class StringLiteral) q.reads.class in
      record { token = q.sign; next = q.reads.next; sort = sort; names = quoted_names q.sign.class sort; tree = q.tree ∙ same_node (sym (ap name_kind q.reads.class)) (sym q.reads.text) refl span.0 (span.1 ∙ stop_of_token q.reads.next) refl }
    where
      of : {w v : List ℕ} {c : TokenClass} {t : Token} {st en : ℕ} → Reads Token (SeenNext text) (behind_in text) c v s t e → Placed Token (SeenNext text) (behind_in text) directive_string (node Literal w plain st en none) s e → (st ≡ t.start) × (en ≡ (behind_in text e).stop)
      of {t = t} r (placed {t = u} {m = m} nx p) = (sym (ap (λ (x : ℕ × ℕ). x.0) p) ∙ (seen_determined text).start s u t m e nx r.next, sym (ap (λ (x : ℕ × ℕ). x.1) p))

  -- a word
  pub word_given : {o : ℕ} {n : Tree} {s e : Token} {P : List Pair} → SpellsIn text o word n s e P → TokenGiven names_module n s e
  word_given d =
      let u = word_form Token (SeenNext text) (behind_in text) (seen_determined text) d in
      let told : is_worded u.sign.class u.sign.text ≡ true = (λ i. is_worded (u.reads.class i) (u.reads.text i)) ∙ u.is_word in
      let names = worded_names u.sign.class u.sign.text told in
      record { token = u.sign; next = u.reads.next; sort = names.0; names = names.0; tree = u.tree ∙ same_node (sym names.1) (sym u.reads.text) refl refl (stop_of_token u.reads.next) refl }

  -- either
  pub either_given : {o : ℕ} {n : Tree} {s m : Token} {Q : List Pair} (b : Bool) → SpellsIn text o (cond b word directive_string) n s m Q → TokenGiven names_module n s m
  either_given true d = word_given d
  either_given false d = let g = string_given d in record { token = g.token; next = g.next; sort = g.names; names = g.names; tree = g.tree }

  pub name_given : {o : ℕ} {n : Tree} {s e : Token} {P : List Pair} → RunsIn text o (anywhere (module_name n ∷ [])) (part n none) s e P → TokenGiven names_module n s e
  name_given {o} {n} {s} {e} d =
      let v = run_the_part Token (SeenNext text) (behind_in text) d in
      let z = run_none Token (SeenNext text) (behind_in text) v.runs in
      subst (λ x. TokenGiven names_module n s x) z.place (either_given (is_identifier (kind_of n)) v.spelled)

  -- it is the one that is read
  pub token_same : {p : TokenClass → Bool} {n : Tree} {s k e : Token} (t : LexicalToken) → SeenNext text s (as_read t) k → names_module t.class ≡ true → TokenGiven p n s e → (single_node (name_kind t.class) t ≡ n) × (k ≡ e)
  token_same {s = s} {k} {e} t next names g =
      let det = seen_determined text in
      let same = det.same Div s (as_read t) g.token k e next g.next (det.free Div s (as_read t) k next (named_free t.class names)) (det.free Div s g.token e g.next (named_free g.token.class g.names)) in
      let leaf : node (name_kind t.class) t.text plain t.start t.stop none ≡ node (name_kind g.token.class) g.token.text plain g.token.start g.token.stop none =
      ap (λ w. node (name_kind t.class) w plain t.start t.stop none) (sym (token_text text t names)) ∙ ap (λ (x : Token). node (name_kind x.class) x.text plain x.start x.stop none) same.0 in
      (ap (λ w. node (name_kind t.class) w plain t.start t.stop none) (name_text t.class t.text) ∙ leaf ∙ sym g.tree, same.1)

  pub token_missed : {p : TokenClass → Bool} {n : Tree} {s e : Token} → MissesBy text Div (λ t. p t.class) s → TokenGiven p n s e → ⊥
  token_missed {s = s} {e} missed g = false≢true (sym (missed g.token e (record { next = g.next; allowed = (seen_determined text).free Div s g.token e g.next (named_free g.token.class g.names) })) ∙ g.sort)

  -- a name that binds
  pub binding_given : {o : ℕ} {n : Tree} {s e : Token} {P : List Pair} → SpellsIn text o name n s e P → TokenGiven names_module n s e
  binding_given d =
      let u = (name_form Token (SeenNext text) (behind_in text) (seen_determined text) d).0 in
      let names : names_module u.sign.class ≡ true = ap names_module u.reads.class in
      record { token = u.sign; next = u.reads.next; sort = names; names = names; tree = u.tree ∙ same_node (sym (ap name_kind u.reads.class)) (sym u.reads.text) refl refl (stop_of_token u.reads.next) refl }

  pub binding_free : {o : ℕ} {n : Tree} {s e : Token} {P : List Pair} → SpellsIn text o name n s e P → (g : TokenGiven names_module n s e) × ((same_class IdentifierName g.token.class && is_free_name g.token.text) ≡ true)
  unfolding binding_given
  binding_free d =
      let u = name_form Token (SeenNext text) (behind_in text) (seen_determined text) d in
      (binding_given d, ap (λ c. same_class IdentifierName c && is_free_name u.0.sign.text) u.0.reads.class ∙ ap (λ w. not (is_reserved w)) u.0.reads.text ∙ ap not u.1)

  pub binding_missed : {o : ℕ} {n : Tree} {s e : Token} {P : List Pair} → NoName text is_free_name s → SpellsIn text o name n s e P → ⊥
  binding_missed {e = e} missed d =
      let u = name_form Token (SeenNext text) (behind_in text) (seen_determined text) d in
      missed u.0.sign e (record { next = u.0.reads.next; class = u.0.reads.class; text = refl }) (ap (λ w. not (is_reserved w)) u.0.reads.text ∙ ap not u.1)

  -- that is read
  pub binding_token : {s k : Token} (t : LexicalToken) → NameHere text is_free_name s k → k ≡ as_read t → SeenNext text s (as_read t) k × (t.class ≡ IdentifierName)
  binding_token {s = s} {k} t here is =
      let same : behind_in text k ≡ as_read t = name_place text k here.0.class ∙ is in
      (subst (λ x. SeenNext text s x k) same here.0.next, sym (ap (λ (x : Token). x.class) same) ∙ here.0.class)

  pub binding_same : {p : TokenClass → Bool} {n : Tree} {s k e : Token} (t : LexicalToken) → NameHere text is_free_name s k → k ≡ as_read t → TokenGiven p n s e → (single_node Identifier t ≡ n) × (k ≡ e)
  binding_same t here is g =
      let read = binding_token t here is in
      let same = token_same t read.0 (ap names_module read.1) g in
      (sym (ap (λ c. single_node (name_kind c) t) read.1) ∙ same.0, same.1)

  -- and its node
  pub name_node : {s k : Token} (t : LexicalToken) → NameHere text is_free_name s k → k ≡ as_read t → single_node Identifier t ≡ single_node Identifier k
  name_node t here is =
      let read = binding_token t here is in
      ap (λ w. node Identifier w plain t.start t.stop none) (sym (token_text text t (ap names_module read.1))) ∙ ap (single_node Identifier) (sym is)

  -- a string is a name where one may be
  pub string_runs : {o : ℕ} {n : Tree} {s e : Token} {P : List Pair} → SpellsIn text o directive_string n s e P → RunsIn text o (anywhere (module_name n ∷ [])) (part n none) s e (P ++ [])
  string_runs {o} {n} {s} {e} {P} d =
      let q = quoted_form Token (SeenNext text) (behind_in text) (seen_determined text) d in
      subst (λ m. RunsIn text o (anywhere (module_name m ∷ [])) (part m none) s e (P ++ [])) (sym q.tree) (within (subst (λ m. SpellsIn text o directive_string m s e P) q.tree d) done)

  -- and a word is one
  pub either_runs : {o : ℕ} {n : Tree} {s e : Token} {P : List Pair} (b : Bool) → SpellsIn text o (cond b word directive_string) n s e P → RunsIn text o (anywhere (module_name n ∷ [])) (part n none) s e (P ++ [])
  either_runs false d = string_runs d
  either_runs {o} {n} {s} {e} {P} true d =
      let u = word_form Token (SeenNext text) (behind_in text) (seen_determined text) d in
      subst (λ m. RunsIn text o (anywhere (module_name m ∷ [])) (part m none) s e (P ++ [])) (sym u.tree) (within (subst (λ m. SpellsIn text o word m s e P) u.tree d) done)

  -- the part alone
  pub sole_part : {o : ℕ} {a : Role} {n : Tree} {s e : Token} {P : List Pair} → RunsIn text o (sub a ∷ []) (part n none) s e P → SpellsIn text o a n s e P
  sole_part {o} {a} {n} {s} {e} {P} d =
      let b = run_the_part Token (SeenNext text) (behind_in text) d in
      let z = run_none Token (SeenNext text) (behind_in text) b.runs in
      subst (λ v. SpellsIn text o a n s v P) z.place (subst (λ v. SpellsIn text o a n s b.mid v) (sym (b.pairs ∙ ap (λ v. b.one ++ v) z.pairs ∙ append-nil b.one)) b.spelled)

  -- what is a name where a string stands is a string
  pub quoted_name : {o : ℕ} {n : Tree} {s e : Token} {P : List Pair} → SeesBy text Div is_quoted s → RunsIn text o (anywhere (module_name n ∷ [])) (part n none) s e P → SpellsIn text o directive_string n s e P
  quoted_name {o} {n} {s} {e} {P} sees d =
      let det = seen_determined text in
      let g = name_given d in
      let same = (det.same Div s g.token (behind_in text sees.0) e sees.0 g.next sees.1.0.next (det.free Div s g.token e g.next (named_free g.token.class g.names)) sees.1.0.allowed).0 in
      let kind : kind_of n ≡ Literal = ap kind_of g.tree ∙ quoted_kind g.token.class (ap is_quoted same ∙ sees.1.1) in
      subst (λ k. SpellsIn text o (cond (is_identifier k) word directive_string) n s e P) kind (sole_part d)

-- What is answered of single tokens

module _ (s e : CursorState) (high : ℕ) where
  pub name_derived : (t : LexicalToken) (result : Result Tree Fault) → SeenNext s.text s.last (as_read t) e.last → names_module t.class ≡ true → Makes (single_node (name_kind t.class) t) high result → IfOk result (ModuleNameAt s e)
  name_derived t result next names made = made_ok (single_node (name_kind t.class) t) high result (ModuleNameAt s e) made (λ o. module_name_runs s.text t next names)

  pub source_derived : (result : Result Tree Fault) → SeesBy s.text Div is_quoted s.last → IfOk result (ModuleNameAt s e) → IfOk result (SourceAt s e)
  source_derived (Ok m) sees read = λ o. quoted_name s.text sees (read o)
  source_derived (Err fault) sees read = tt

  pub local_derived : (t : LexicalToken) (result : Result Tree Fault) → NameHere s.text is_free_name s.last e.last → e.last ≡ as_read t → Makes (single_node Identifier t) high result → IfOk result (SecondAt ImportSpecifier s e)
  local_derived t result here is made = made_ok (single_node Identifier t) high result (SecondAt ImportSpecifier s e) made (λ o. subst (λ n. SpellsIn s.text o name n s.last e.last []) (sym (name_node s.text t here is)) (name_spelled s.text here))

  pub binding_derived : (kind : Kind) (start : ℕ) (t : LexicalToken) (m : Tree) (result : Result Tree Fault) → NameHere s.text is_free_name s.last e.last → e.last ≡ as_read t → m ≡ single_node Identifier t → Makes (binding kind start e.last m) high result → IfOk result (BindingAt kind start s e)
  binding_derived kind start t m result here is one made =
      made_ok (binding kind start e.last m) high result (BindingAt kind start s e) made (m, refl, λ o. subst (λ n. SpellsIn s.text o name n s.last e.last []) (sym (one ∙ name_node s.text t here is)) (name_spelled s.text here))

  pub name_answered : (t : LexicalToken) (result : Result Tree Fault) → SeenNext s.text s.last (as_read t) e.last → names_module t.class ≡ true → Makes (single_node (name_kind t.class) t) high result → ModuleNameComplete s e high result
  name_answered t result next names made o n to P d = made_agrees high result (token_same s.text t next names (name_given s.text d)) made

  pub name_unread : (result : Result Tree Fault) → MissesBy s.text Div is_module_name s.last → ModuleNameComplete s e high result
  name_unread result missed o n to P d = absurd (token_missed s.text missed (name_given s.text d))

  -- a source is a name that is a string
  pub source_answered : (result : Result Tree Fault) → ModuleNameComplete s e high result → SourceComplete s e high result
  source_answered result complete o n to P d = complete o n to (P ++ []) (string_runs s.text d)

  pub source_unread : (result : Result Tree Fault) → MissesBy s.text Div is_quoted s.last → SourceComplete s e high result
  source_unread result missed o n to P d = absurd (token_missed s.text missed (string_given s.text d))

  -- the second name of an import
  pub local_answered : (t : LexicalToken) (result : Result Tree Fault) → NameHere s.text is_free_name s.last e.last → e.last ≡ as_read t → Makes (single_node Identifier t) high result → SecondComplete s e high ImportSpecifier result
  local_answered t result here is made o n to P d = made_agrees high result (binding_same s.text t here is (binding_given s.text d)) made

  pub local_unread : (result : Result Tree Fault) → NoName s.text is_free_name s.last → SecondComplete s e high ImportSpecifier result
  local_unread result missed o n to P d = absurd (binding_missed s.text missed d)

  -- a specifier of one name that it binds: the node of the name is made, and then that of the specifier
  pub binding_answered : (kind : Kind) (start : ℕ) (t : LexicalToken) (m : Tree) (result : Result Tree Fault) → NameHere s.text is_free_name s.last e.last → e.last ≡ as_read t → m ≡ single_node Identifier t → Makes (binding kind start e.last m) high result → BindingComplete s e high kind start result
  binding_answered kind start t m result here is one made o left to P d =
      let same = binding_same s.text t here is (binding_given s.text d) in
      made_agrees high result ((λ i. binding kind start (same.1 i) ((one ∙ same.0) i)), same.1) made

  pub binding_unread : (kind : Kind) (start : ℕ) (result : Result Tree Fault) → NoName s.text is_free_name s.last → BindingComplete s e high kind start result
  binding_unread kind start result missed o left to P d = absurd (binding_missed s.text missed d)
