-- How what a broker's script says grows by a line, and that lines say at most one.
use Rattle.std.proofs.Common.{◌≡◌, ℕ, ◌<◌, ◌≤◌, ◌+◌, ◌-◌, Bool, true, cond, List, [], ◌∷◌, ◌++◌, length, take, get_or, filter, map, sym, ap, ap₂, subst, ◌∙◌, arith, refl, length-append, append_assoc}
use Rattle.std.proofs.lemmas.List.{map-append, take_more, length-take, append-nil}
use Rattle.std.proofs.lemmas.List.Elements.{filter-append, All-cons, All-head, All-tail, All-push}
use Rattle.std.specs.Prelude.{Option, Some, None, All}
use Rattle.grammar.specs.Lines.{words_of, is_statement}
use Rattle.grammar.specs.declared.limits.TheConstants.{MAX_LINES}
use Rattle.broker_lines.specs.Grammar.{broker_words, statement_words, IsServedStatement, SaysStatement}
use Rattle.broker_lines.specs.Script.{Says, SaysScript, Continues, EndsBadly, IsFirstBad, MayFollowAll, may_follow}
use Rattle.broker_lines.specs.Scripted.{Scripted}
use Rattle.broker_lines.specs.declared.statements.BrokerLine.{BrokerLine}
use Rattle.broker_lines.specs.declared.statements.Statement.{Statement}
use Rattle.broker_lines.proofs.Words.{same_broker, same_statements}

statements_more : (lines : List (List ℕ)) (line : List ℕ) → is_statement line ≡ true
    → map words_of (filter is_statement (lines ++ line ∷ [])) ≡ map words_of (filter is_statement lines) ++ words_of line ∷ []
statements_more lines line told =
    ap (map words_of) (filter-append is_statement lines (line ∷ []) ∙ ap (λ (b : Bool). filter is_statement lines ++ cond b (line ∷ []) []) told)
    ∙ map-append words_of (filter is_statement lines) (line ∷ [])

one_more : (lines : List (List ℕ)) (line : List ℕ) → length lines < MAX_LINES → length (lines ++ line ∷ []) ≤ MAX_LINES
one_more lines line few = omega (arith, length-append lines (line ∷ []))

-- one more statement may come after those before it
follows_more : (before statements : List Statement) (next : Statement) → MayFollowAll before statements
    → may_follow (before ++ statements) next ≡ true → MayFollowAll before (statements ++ next ∷ [])
follows_more before [] next follow may = (ap (λ (b : List Statement). may_follow b next) (sym (append-nil before)) ∙ may, tt)
follows_more before (statement ∷ statements) next follow may = (
  follow.0,
  follows_more (before ++ statement ∷ []) statements next follow.1
      (ap (λ (b : List Statement). may_follow b next) (append_assoc before (statement ∷ []) statements) ∙ may),
)

-- and the last one of some may
follows_last : (before statements : List Statement) (next : Statement) → MayFollowAll before (statements ++ next ∷ [])
    → may_follow (before ++ statements) next ≡ true
follows_last before [] next follow = ap (λ (b : List Statement). may_follow b next) (append-nil before) ∙ follow.0
follows_last before (statement ∷ statements) next follow =
    ap (λ (b : List Statement). may_follow b next) (sym (append_assoc before (statement ∷ []) statements))
    ∙ follows_last (before ++ statement ∷ []) statements next follow.1

pub says_more : (lines : List (List ℕ)) (line : List ℕ) (broker : BrokerLine) (statements : List Statement) (next : Statement)
    → Says lines (Some broker) statements → length lines < MAX_LINES → is_statement line ≡ true → SaysStatement line next
    → may_follow statements next ≡ true → Says (lines ++ line ∷ []) (Some broker) (statements ++ next ∷ [])
says_more lines line broker statements next says few told line_says may = record {
  few = one_more lines line few;
  words =
      statements_more lines line told
      ∙ ap (λ ws. ws ++ words_of line ∷ []) says.words
      ∙ ap (λ w. (broker_words broker ∷ map statement_words statements) ++ w ∷ []) line_says.words
      ∙ ap (λ ws. broker_words broker ∷ ws) (sym (map-append statement_words statements (next ∷ [])));
  broker_first = λ e. absurd (cc);
  broker_served = says.broker_served;
  served = All-push IsServedStatement statements next says.served line_says.served;
  of_kind = follows_more [] statements next says.of_kind may;
}

-- the last of some statements, and those before it
record Last (words : List (List (List ℕ))) (word : List (List ℕ)) (statements : List Statement) : Type 0 where
  pub before : List Statement
  pub last : Statement
  pub whole : statements ≡ before ++ last ∷ []
  pub said : map statement_words before ≡ words
  pub here : word ≡ statement_words last

last_of : (words : List (List (List ℕ))) (word : List (List ℕ)) (statements : List Statement)
    → words ++ word ∷ [] ≡ map statement_words statements → Last words word statements
last_of [] word [] same = absurd (cc)
last_of [] word (s ∷ []) same = record { before = []; last = s; whole = refl; said = refl; here = (cc) }
last_of [] word (s ∷ t ∷ ss) same = absurd (cc)
last_of (w ∷ words) word [] same = absurd (cc)
last_of (w ∷ words) word (s ∷ ss) same =
    let rest = last_of words word ss (cc) in
    let first : statement_words s ≡ w = cc in
    record {
      before = s ∷ rest.before;
      last = rest.last;
      whole = ap (λ (l : List Statement). s ∷ l) rest.whole;
      said = ap₂ (λ (a : List (List ℕ)) (b : List (List (List ℕ))). a ∷ b) first rest.said;
      here = rest.here;
    }

-- those before the last are served
served_before : (before : List Statement) (last : Statement) → All IsServedStatement (before ++ last ∷ [])
    → All IsServedStatement before × IsServedStatement last
served_before [] last served = ((λ k d more. absurd (omega arith)), All-head IsServedStatement last [] served)
served_before (s ∷ ss) last served =
    let rest = served_before ss last (All-tail IsServedStatement s (ss ++ last ∷ []) served) in
    let first = All-head IsServedStatement s (ss ++ last ∷ []) served in
    (All-cons IsServedStatement s ss first rest.0, rest.1)

-- a line that is no statement's, or of one that may not follow, can't come later
pub bad_later : (lines : List (List ℕ)) (line : List ℕ) (first : BrokerLine) (statements : List Statement)
    → Says lines (Some first) statements → is_statement line ≡ true
    → ((next : Statement) → SaysStatement line next → may_follow statements next ≡ true → ⊥)
    → (broker : Option BrokerLine) (more : List Statement) → Says (lines ++ line ∷ []) broker more → ⊥
bad_later lines line first statements says told never None more bad =
    let some : map words_of (filter is_statement lines) ++ words_of line ∷ [] ≡ map statement_words more = sym (statements_more lines line told) ∙ bad.words in
    let none : map statement_words more ≡ [] = ap (map statement_words) (bad.broker_first refl) in
    let long : length (map words_of (filter is_statement lines) ++ words_of line ∷ []) ≡ 0 = ap length (some ∙ none) in
    omega (arith, long, length-append (map words_of (filter is_statement lines)) (words_of line ∷ []))
bad_later lines line first statements says told never (Some broker) more bad =
    let same : broker_words first ∷ (map statement_words statements ++ words_of line ∷ []) ≡ broker_words broker ∷ map statement_words more =
    ap (λ ws. ws ++ words_of line ∷ []) (sym says.words) ∙ sym (statements_more lines line told) ∙ bad.words in
    let last = last_of (map statement_words statements) (words_of line) more (cc) in
    let served = served_before last.before last.last (subst (All IsServedStatement) last.whole bad.served) in
    let before : last.before ≡ statements = same_statements last.before statements served.0 says.served last.said in
    let follow : may_follow last.before last.last ≡ true =
    follows_last [] last.before last.last (subst (MayFollowAll []) last.whole bad.of_kind) in
    never last.last (record { words = last.here; served = served.1 })
    (ap (λ (b : List Statement). may_follow b last.last) (sym before) ∙ follow)

-- there is no line past the last allowed
pub too_many : (lines : List (List ℕ)) (line : List ℕ) (broker : Option BrokerLine) (statements : List Statement)
    → MAX_LINES ≤ length lines → Says (lines ++ line ∷ []) broker statements → ⊥
too_many lines line broker statements many says = let few = says.few in omega (arith, few, length-append lines (line ∷ []))

-- the lines up to the one at k
next_lines : (lines : List (List ℕ)) (k : ℕ) (line : List ℕ) → (k < length lines) × (line ≡ get_or lines k line)
    → take (k + 1) lines ≡ take k lines ++ line ∷ []
next_lines lines k line turn = take_more lines k line turn.0 ∙ ap (λ (l : List ℕ). take k lines ++ l ∷ []) (sym turn.1)

-- a good line
pub goes_on : (lines : List (List ℕ)) (k : ℕ) (line : List ℕ) → (k < length lines) × (line ≡ get_or lines k line)
    → k < MAX_LINES → (broker new_broker : Option BrokerLine) (statements new_statements : List Statement)
    → Says (take k lines) broker statements → Continues broker statements line new_broker new_statements
    → Says (take (k + 1) lines) new_broker new_statements
goes_on lines k line turn few broker new_broker statements new_statements says continues =
    let here = turn.0 in
    subst (λ (ls : List (List ℕ)). Says ls new_broker new_statements) (sym (next_lines lines k line turn))
    (continues (take k lines) says (omega (arith, length-take k lines)))

-- a bad line
pub stops : (lines : List (List ℕ)) (k : ℕ) (line : List ℕ) → (k < length lines) × (line ≡ get_or lines k line)
    → (broker : Option BrokerLine) (statements : List Statement) → Says (take k lines) broker statements
    → EndsBadly broker statements line → IsFirstBad lines (k + 1)
stops lines k line turn broker statements says ends =
    let here = turn.0 in
    let before : k ≡ k + 1 - 1 = omega arith in
    record {
      some = omega arith;
      there = omega arith;
      good = (broker, statements, subst (λ (n : ℕ). Says (take n lines) broker statements) before says);
      bad = λ other more bad.
          ends (take k lines) says other more (subst (λ (ls : List (List ℕ)). Says ls other more) (next_lines lines k line turn) bad);
    }

-- a line past the last allowed
pub stops_past : (lines : List (List ℕ)) (k : ℕ) (line : List ℕ) → (k < length lines) × (line ≡ get_or lines k line)
    → MAX_LINES ≤ k → (broker : Option BrokerLine) (statements : List Statement) → Says (take k lines) broker statements
    → IsFirstBad lines (k + 1)
stops_past lines k line turn many broker statements says =
    let here = turn.0 in
    let before : k ≡ k + 1 - 1 = omega arith in
    record {
      some = omega arith;
      there = omega arith;
      good = (broker, statements, subst (λ (n : ℕ). Says (take n lines) broker statements) before says);
      bad = λ other more bad.
          too_many (take k lines) line other more (omega (arith, length-take k lines))
          (subst (λ (ls : List (List ℕ)). Says ls other more) (next_lines lines k line turn) bad);
    }

-- lines say at most one broker and at most one list of statements
same_script : (lines : List (List ℕ)) (b c : Option BrokerLine) (ss ts : List Statement) → Says lines b ss
    → Says lines c ts → (b ≡ c) × (ss ≡ ts)
same_script lines None None ss ts one other = (refl, one.broker_first refl ∙ sym (other.broker_first refl))
same_script lines None (Some c) ss ts one other =
    let none : map statement_words ss ≡ [] = ap (map statement_words) (one.broker_first refl) in
    let some : map statement_words ss ≡ broker_words c ∷ map statement_words ts = sym one.words ∙ other.words in
    absurd (cc)
same_script lines (Some b) None ss ts one other =
    let none : map statement_words ts ≡ [] = ap (map statement_words) (other.broker_first refl) in
    let some : map statement_words ts ≡ broker_words b ∷ map statement_words ss = sym other.words ∙ one.words in
    absurd (cc)
same_script lines (Some b) (Some c) ss ts one other =
    let both : broker_words b ∷ map statement_words ss ≡ broker_words c ∷ map statement_words ts = sym one.words ∙ other.words in
    (ap Some (same_broker b c one.broker_served other.broker_served (cc)), same_statements ss ts one.served other.served (cc))

-- and at most one script
pub one_script : (lines : List (List ℕ)) (one other : Scripted) → SaysScript lines one → SaysScript lines other → one ≡ other
one_script lines one other a b =
    let same : (one.broker ≡ other.broker) × (one.statements ≡ other.statements) =
    same_script lines one.broker other.broker one.statements other.statements a b in
    ap (λ q. record one { broker = q }) same.0 ∙ ap (λ ss. record other { statements = ss }) same.1
