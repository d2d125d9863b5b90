use Rattle.std.proofs.Common.{inl, inr, ap, sym, ◌∙◌}
use Rattle.tokens.specs.Scanned.{token_of}
use Rattle.recursive_descent.specs.Later.{is_member_name}
use Rattle.recursive_descent.proofs.sound_subscripts.MemberNames.{member_read, member_own, no_member, other_class, word_class, names_member}
use Rattle.recursive_descent.proofs.parser.Parser.member_name.Goals as goal
use Rattle.recursive_descent.proofs.parser.Parser.member_name.Goals.{in-IdentifierName, in-PrivateName, in_default-class-via-in-PrivateName+else-is_of_2022, in_default-class-via-in_default-class}

pub returns-in_default-class-clause-none : goal.returns-in_default-class-clause-none
returns-in_default-class-clause-none c =
    let text = c.args.self.now.cursor.text in
    no_member c.args.self.now.cursor (token_of c.in-Some.token) c.in-Some.ensures.some
    (elim c.in_default-class.branch [
      | in_default-class-via-in-PrivateName+else-is_of_2022 w ↦ ap (is_member_name text) w.in-PrivateName.is ∙ sym w.is_of_2022.ensures ∙ w.if-is_of_2022.false
      | in_default-class-via-in_default-class w ↦ other_class text c.in-Some.token.class w.in_default-class.not-IdentifierName w.in_default-class.not-Keyword w.in_default-class.not-PrivateName
    ])

pub returns-clause-derived : goal.returns-clause-derived
returns-clause-derived c =
    let text = c.args.self.now.cursor.text in
    member_read c.args.self.now.cursor c.advance.new.self.cursor (token_of c.in-Some.token) c.advance.ensures.reads
    (elim c.match-token.branch [
      | in-IdentifierName w ↦ word_class text c.in-Some.token.class w.in-IdentifierName.is
      | in-PrivateName w ↦ ap (is_member_name text) w.in-PrivateName.is ∙ sym w.is_of_2022.ensures ∙ w.if-is_of_2022.true
    ])

pub returns-clause-own : goal.returns-clause-own
returns-clause-own c =
    let text = c.args.self.now.cursor.text in
    member_own text (token_of c.in-Some.token)
    (elim c.match-token.branch [
      | in-IdentifierName w ↦ word_class text c.in-Some.token.class w.in-IdentifierName.is
      | in-PrivateName w ↦ ap (is_member_name text) w.in-PrivateName.is ∙ sym w.is_of_2022.ensures ∙ w.if-is_of_2022.true
    ])

pub returns-clause-named : goal.returns-clause-named
returns-clause-named c = elim c.match-token.branch [ in-IdentifierName w ↦ names_member c.in-Some.token.class (inl w.in-IdentifierName.is) | in-PrivateName w ↦ names_member c.in-Some.token.class (inr w.in-PrivateName.is) ]
