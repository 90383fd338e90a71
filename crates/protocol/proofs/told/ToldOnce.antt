-- What kept words tell a client is one thing, that which `told_by` says.
use Rattle.std.proofs.Common.{◌≡◌, ◌≢◌, ℕ, ◌<◌, ◌⊎◌, inl, inr, List, [], ◌∷◌, ◌++◌, refl, sym, ◌∙◌, ap, subst}
use Rattle.std.proofs.lemmas.Bool.{cases_eq}
use Rattle.words.specs.PlainQueue.{Value}
use Rattle.words.specs.declared.call.Kind.{Kind}
use Rattle.words.specs.declared.call.Kind.TheVariants.{Durable, Log}
use Rattle.words.specs.declared.call.Reply.TheVariants.{Done, Got, Empty}
use Rattle.words.specs.declared.told.Outcome.{Outcome}
use Rattle.words.specs.declared.told.Outcome.TheVariants.{NotTaken, Taken}
use Rattle.words.specs.declared.told.Row.TheVariants.{NoCall, Open, Empty as row_empty, Got as row_got}
use Rattle.words.specs.declared.told.Told.{Told}
use Rattle.words.specs.declared.told.Told.TheVariants.{None as told_none, Verdict as told_verdict, Row as told_row}
use Rattle.words.specs.declared.told.Verdict.{Verdict}
use Rattle.arena.specs.Chain.{IsAmong}
use Rattle.arena.specs.Content.{chain_of}
use Rattle.arena.specs.Shape.{Shape}
use Rattle.arena.specs.Words.{links, marks, values, cells, numbers, entry_kinds, statuses, announcements}
use Rattle.arena.specs.declared.place.Place.{Place}
use Rattle.sound_words.specs.Told.{told_by}
use Rattle.sound_words.proofs.Facts.{is_among_or_not, told_nobody}
use Rattle.protocol.specs.Kept.{OutcomeBy, TellsBy, TellsOf}
use Rattle.protocol.specs.invariants.Sound.{Sound}
use Rattle.protocol.proofs.worlds.Facts.{chain_is}
use Rattle.protocol.proofs.told.ToldByWords.{tellable, told_is_by, told_one}

module _ (s : Shape) (k : Place → ℕ) (claimed waiting : List ℕ) (queue : List Value) (b : Sound s k claimed waiting queue) where
  all : chain_of s k ≡ claimed ++ waiting
  all = chain_is s k claimed waiting b.chain b.fits

  -- whoever is told what the words tell is told this
  pub tells_once : (t : ℕ) (x : Told) → TellsOf s k t x → told_by s k t ≡ x
  tells_once t x h = sym (told_one s k claimed waiting queue b all t x h)

  -- the words tell each client something
  claim_among : (e : ℕ) (ns : List ℕ) → record { at : ℕ; marked : marks k at ≡ e } ⊎ ((at : ℕ) → IsAmong at ns → marks k at ≢ e)
  claim_among e [] = inr (λ at i. absurd i)
  claim_among e (n ∷ ns) = elim (cases_eq (marks k n) e) [
    | inl q ↦ inl (record { at = n; marked = q })
    | inr ne ↦ elim (claim_among e ns) [
      | inl found ↦ inl found
      | inr none ↦ inr (λ at i. elim i [ inl q ↦ (λ z. ne (ap (marks k) (sym q) ∙ z)) | inr j ↦ none at j ])
    ]
  ]

  claim_or_none : (e : ℕ) → e ≢ 0 → record { at : ℕ; marked : marks k at ≡ e } ⊎ ((at : ℕ) → marks k at ≢ e)
  claim_or_none e some = elim (claim_among e (chain_of s k)) [
    | inl found ↦ inl found
    | inr none ↦ inr (λ at q. none at ((tellable s k claimed waiting queue b all).claimed at (λ z. some (sym q ∙ z))) q)
  ]

  some_outcome : (e : ℕ) → e ≢ 0 → (o : Outcome) × OutcomeBy k e o
  some_outcome e some = elim (cases_eq (entry_kinds k e) 1) [
    | inl one ↦ elim (is_among_or_not e (chain_of s k)) [
      | inl i ↦ let l : (l : ℕ) × (links k l ≡ e) = (tellable s k claimed waiting queue b all).link e i in (Taken Done, (one, record { at = l.0; linked = l.1 }))
      | inr off ↦ (NotTaken, ((λ q at l. off (subst (λ x. IsAmong x (chain_of s k)) l ((tellable s k claimed waiting queue b all).linked at (λ z. some (sym l ∙ z))))), (λ ne. absurd (ne one))))
    ]
    | inr ne ↦ elim (cases_eq (statuses k e) 2) [
      | inl two ↦ (Taken Empty, (ne, two))
      | inr other ↦ elim (claim_or_none e some) [
        | inl found ↦ (Taken (Got (values k found.at)), (ne, record { at = found.at; marked = found.marked; value = refl }))
        | inr none ↦ (NotTaken, ((λ one. absurd (ne one)), (λ q. (other, none))))
      ]
    ]
  ]

  some_row : (e : ℕ) → e ≢ 0 → (t : ℕ) → announcements k t ≡ e → (x : Told) × TellsBy Durable k t x
  some_row e some t ann = elim (cases_eq (cells k e) 1) [
    | inl one ↦ (told_row row_empty, ((λ z. some (sym ann ∙ z)), subst (λ c. cells k c ≡ 1) (sym ann) one))
    | inr other ↦ elim (claim_or_none e some) [
      | inl found ↦ (told_row (row_got (values k found.at)), ((λ z. some (sym ann ∙ z)), record { at = found.at; marked = found.marked ∙ sym ann; value = refl }))
      | inr none ↦ (told_row Open, ((λ z. some (sym ann ∙ z)), ((λ z. other (subst (λ c. cells k c ≡ 1) ann z)), (λ at q. none at (q ∙ ann)))))
    ]
  ]

  some_told : (t : ℕ) (kind : Kind) → (x : Told) × TellsBy kind k t x
  some_told t Log = elim (cases_eq (announcements k t) 0) [
    | inl z ↦ (told_none, z)
    | inr some ↦
        let o : (o : Outcome) × OutcomeBy k (announcements k t) o = some_outcome (announcements k t) some in
        let v : Verdict = record { number = numbers k (announcements k t); outcome = o.0 } in
        (told_verdict v, (some, refl, o.1))
  ]
  some_told t Durable = elim (cases_eq (announcements k t) 0) [
    | inl z ↦ (told_row NoCall, z)
    | inr some ↦ some_row (announcements k t) some t refl
  ]

  -- what `told_by` says is what the words tell
  pub tells_right : (t : ℕ) → TellsOf s k t (told_by s k t)
  tells_right t = ((λ lt. of_client lt), (λ ge. told_nobody s k t ge))
    where
      of_client : t < s.clients → TellsBy s.kind k t (told_by s k t)
      of_client lt =
          let x : (x : Told) × TellsBy s.kind k t x = some_told t s.kind in
          subst (TellsBy s.kind k t) (told_is_by s k claimed waiting queue b all s.kind refl t lt x.0 x.1) x.1
