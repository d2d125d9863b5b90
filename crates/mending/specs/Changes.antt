-- The changes of rules, row by row: a rule's name, where it reports a node that it changes, what its change makes of the node, and
-- which statements of a list go. A change looks at a node's shape alone; that the rule reports the node is asked for elsewhere.
use Rattle.std.specs.Prelude.{ℕ, Bool, false, not, cond, ◌&&◌, ◌||◌, List, [], ◌∷◌, ◌++◌, Option, Some, None, is_none, codes}
use Rattle.std.specs.Str.{bytes_eq}
use Rattle.tree.specs.declared.kind.Flags.{Flags}
use Rattle.tree.specs.declared.kind.Form.TheVariants.{Shorthand}
use Rattle.tree.specs.declared.kind.Kind.{Kind}
use Rattle.tree.specs.declared.kind.Kind.TheVariants.{Identifier}
use Rattle.tree.specs.declared.kind.Span.{Span}
use Rattle.tree.specs.Tree.{Tree, node, none, part, kind_of, text_of, flags_of, start_of, stop_of, parts_of, parts_drop, plain}
use Rattle.language.specs.Vocabulary.{is, among}
use Rattle.mending.specs.declared.change.MendRule.{MendRule}
use Rattle.mending.specs.declared.change.MendRule.TheVariants.{Curly, DotNotation, EqEqEq, NoDebugger, NoExtraBooleanCast, NoExtraSemi, NoLonelyIf, NoUnusedLabels, NoUselessComputedKey, NoUselessRename, NoUselessReturn, ObjectShorthand, OperatorAssignment, PreferConst}
use Rattle.mending.specs.Words.{nth, span_of, span_at, text_at, kind_at, is_assignment, is_assignment_pattern, is_binary, is_block, is_debugger, is_declaration, has_bodies, is_empty_statement, is_identifier, is_if, is_init, is_labelled, is_literal, is_member, is_property, is_specifier, is_unary, is_quoted, is_return, is_string, inside, is_plain_name}

abbrev pub called : MendRule → List ℕ
called Curly = codes "curly"
called DotNotation = codes "dot-notation"
called EqEqEq = codes "eqeqeq"
called NoDebugger = codes "no-debugger"
called NoExtraBooleanCast = codes "no-extra-boolean-cast"
called NoExtraSemi = codes "no-extra-semi"
called NoLonelyIf = codes "no-lonely-if"
called NoUnusedLabels = codes "no-unused-labels"
called NoUselessComputedKey = codes "no-useless-computed-key"
called NoUselessRename = codes "no-useless-rename"
called NoUselessReturn = codes "no-useless-return"
called ObjectShorthand = codes "object-shorthand"
called OperatorAssignment = codes "operator-assignment"
called PreferConst = codes "prefer-const"

-- where a rule reports a node that it changes: at the node, unless said otherwise. `prefer-const` reports each name of a declaration.
abbrev pub place : MendRule → Tree → Span
place DotNotation n = span_at n (nth 1 n)
place NoLonelyIf n = span_at n (nth 0 n)
place NoUnusedLabels n = span_at n (nth 0 n)
place _ n = span_of n

-- a node of the same kind at the same place, with other words, and its parts from one on
abbrev pub relabelled : Tree → List ℕ → Flags → ℕ → Tree
relabelled n text flags first = node (kind_of n) text flags (start_of n) (stop_of n) (parts_drop first (parts_of n))

-- the value is always a string: `typeof` (12.5.5), or a string literal
abbrev pub is_text : Option Tree → Bool
is_text it = (is_unary (kind_at it) && is (text_at it) "typeof") || (is_literal (kind_at it) && is_quoted (text_at it))

-- what a property of a pattern binds or assigns, its default aside
abbrev pub without_default : Option Tree → Option Tree
without_default None = None
without_default (Some n) = cond (is_assignment_pattern (kind_of n)) (nth 0 n) (Some n)

-- two parts are one name
abbrev pub are_same_name : Option Tree → Option Tree → Bool
are_same_name it other = is_identifier (kind_at it) && (is_identifier (kind_at other) && bytes_eq (text_at it) (text_at other))

-- `a: a`, perhaps with a default, and `a as a`
abbrev pub is_said_twice : Tree → Bool
is_said_twice n = not (flags_of n).computed && (is_init (flags_of n).form && are_same_name (nth 0 n) (without_default (nth 1 n)))

-- how many parts go where one name stands for two: of a property none, since it has the name twice all the same
abbrev pub names_gone : Kind → ℕ
names_gone kind = cond (is_property kind) 0 1

-- one name stands for both
abbrev pub shortened : Tree → Tree
shortened n = relabelled n (text_of n) (record (flags_of n) { form = Shorthand }) (names_gone (kind_of n))

-- `!`
abbrev pub is_not : Option Tree → Bool
is_not it = is_unary (kind_at it) && is (text_at it) "!"

-- the first part of a part
abbrev pub first_of : Option Tree → Option Tree
first_of None = None
first_of (Some n) = nth 0 n

-- what `!!` stands before
abbrev pub twice_negated : Tree → Option Tree
twice_negated n = cond (is_not (Some n) && is_not (nth 0 n)) (first_of (nth 0 n)) None

-- the only statement of a block, if it is an `if`
abbrev pub lonely_if : Tree → Option Tree
lonely_if n = cond (is_block (kind_of n) && (is_if (kind_at (nth 0 n)) && is_none (nth 1 n))) (nth 0 n) None

-- the operators that have an assignment of their own, `**` to `>>>` (12.6 to 12.12)
abbrev pub has_assignment : List ℕ → Bool
has_assignment text = among text ("+" ∷ "-" ∷ "*" ∷ "/" ∷ "%" ∷ "**" ∷ "<<" ∷ ">>" ∷ ">>>" ∷ "&" ∷ "|" ∷ "^" ∷ [])

-- `===` or `!==`
abbrev pub strict : Tree → Option Tree
strict n =
    cond (is (text_of n) "==") (Some (relabelled n (codes "===") (flags_of n) 0))
    (cond (is (text_of n) "!=") (Some (relabelled n (codes "!==") (flags_of n) 0)) None)

-- a string of ASCII characters that are a name
abbrev pub is_name_as_key : Tree → Bool
is_name_as_key key = is_literal (kind_of key) && (is_quoted (text_of key) && is_plain_name (inside (text_of key)))

-- `a.b` of `a["b"]`, by its object and key
abbrev pub dotted : Tree → Option Tree → Option Tree → Option Tree
dotted n (Some object) (Some key) =
    cond (is_name_as_key key)
    (Some (node (kind_of n) (text_of n) (record (flags_of n) { computed = false }) (start_of n) (stop_of n)
    (part object (part (node Identifier (inside (text_of key)) plain (start_of key) (stop_of key) none) none))))
    None
dotted n _ _ = None

-- `a += b` of `a = a + b`, by its target, its operation and that one's right side
abbrev pub assigned_by : Tree → Option Tree → Option Tree → Option Tree → Option Tree
assigned_by n (Some target) (Some operation) (Some right) =
    cond (is_binary (kind_of operation) && (has_assignment (text_of operation) && are_same_name (Some target) (nth 0 operation)))
    (Some (node (kind_of n) (text_of operation ++ codes "=") (flags_of n) (start_of n) (stop_of n) (part target (part right none))))
    None
assigned_by n _ _ _ = None

-- the second part of a part
abbrev pub second_of : Option Tree → Option Tree
second_of None = None
second_of (Some n) = nth 1 n

-- what a rule's change makes of a node: none where it makes nothing of it
abbrev pub change : MendRule → Tree → Option Tree
change DotNotation n = cond (is_member (kind_of n) && (flags_of n).computed) (dotted n (nth 0 n) (nth 1 n)) None
change EqEqEq n = cond (is_binary (kind_of n) && (is_text (nth 0 n) && is_text (nth 1 n))) (strict n) None
change NoExtraBooleanCast n = twice_negated n
change NoLonelyIf n = lonely_if n
change NoUnusedLabels n = cond (is_labelled (kind_of n)) (nth 1 n) None
change NoUselessComputedKey n = cond (is_property (kind_of n) && ((flags_of n).computed && (is_literal (kind_at (nth 0 n)) && not (is_string (codes "__proto__") (nth 0 n))))) (Some (relabelled n (text_of n) (record (flags_of n) { computed = false }) 0)) None
change NoUselessRename n = cond ((is_property (kind_of n) || is_specifier (kind_of n)) && is_said_twice n) (Some (shortened n)) None
change ObjectShorthand n = cond (is_property (kind_of n) && (is_said_twice n && not (is (text_at (nth 0 n)) "__proto__"))) (Some (shortened n)) None
change OperatorAssignment n = cond (is_assignment (kind_of n) && is (text_of n) "=") (assigned_by n (nth 0 n) (nth 1 n) (second_of (nth 1 n))) None
change PreferConst n = cond (is_declaration (kind_of n) && is (text_of n) "let") (Some (relabelled n (codes "const") (flags_of n) 0)) None
change _ n = None

-- a block comes round a body: a statement in a node of this kind, which is no block
abbrev pub is_wrapped : MendRule → Kind → Tree → Bool
is_wrapped Curly kind n = has_bodies kind && not (is_block (kind_of n))
is_wrapped _ kind n = false

-- a statement of a list goes
abbrev pub goes : MendRule → Tree → Bool
goes NoDebugger n = is_debugger (kind_of n)
goes NoExtraSemi n = is_empty_statement (kind_of n)
goes NoUselessReturn n = is_return (kind_of n) && is_none (nth 0 n)
goes _ n = false
