-- An image that is remembered, and a boot, by what came of it.
use Rattle.std.proofs.Common.{◌≡◌, ◌≢◌, ◌⊎◌, inl, inr, sym, subst, ap, ap₂, refl, ◌∙◌, ℕ, List, [], ◌∷◌, length}
use Rattle.std.specs.Prelude.{Result, Ok, Err}
use Rattle.words.specs.declared.refusal.Refusal.{Refusal}
use Rattle.words.specs.declared.refusal.Refusal.TheVariants.{BadCount, NoMemory}
use Rattle.persist.specs.Image.{image_of, reading}
use Rattle.persist.specs.Memory.{words_at_rest}
use Rattle.named.specs.Booting.{AreBootWords, IsBooted, MayRefuse}
use Rattle.session.specs.Keeping.{AreKeptAsHeard}
use Rattle.session.specs.Sessions.{Sessioned}
use Rattle.broker_lines.specs.declared.printed.Printed.{Printed}
use Rattle.broker_lines.specs.declared.printed.Printed.TheVariants.{Booted, Image}
use Rattle.broker_script.specs.Imaging.{boot_line, digest_of, Boots, Images, IsOfBadCount}
use Rattle.broker_script.specs.Play.{Played, new_played, session_of}

-- the words that are read from an image are those that it is of
pub imaged : (old new : Played) (bytes words digest : List ℕ) (size : ℕ) (lines : List Printed)
    → bytes ≡ image_of old.broker.words.kept → reading bytes ≡ Ok old.broker.words.kept → reading bytes ≡ Ok words
    → size ≡ length bytes → digest ≡ digest_of bytes → new ≡ record old { image = words }
    → lines ≡ Image size digest ∷ [] → Images old lines new
imaged old new bytes words digest size lines is read again sized digested kept line =
    let same : words ≡ old.broker.words.kept = cc in
    record {
      line = line ∙ ap₂ (λ (n : ℕ) (d : List ℕ). Image n d ∷ []) (sized ∙ ap length is) (digested ∙ ap digest_of is);
      remembered = kept ∙ ap (λ (w : List ℕ). record old { image = w }) same;
    }

never_made : (r : Result Sessioned Refusal) (s : Sessioned) → r ≡ Ok s
    → (r ≡ Err BadCount) ⊎ (r ≡ Err NoMemory) → ⊥
never_made r s made (inl none) = absurd (cc)
never_made r s made (inr none) = absurd (cc)

counted : (r : Result Sessioned Refusal) (refusal : Refusal) → refusal ≢ NoMemory → r ≡ Err refusal
    → (r ≡ Err BadCount) ⊎ (r ≡ Err NoMemory) → refusal ≡ BadCount
counted r refusal other is (inl count) = cc
counted r refusal other is (inr none) = absurd (other (cc))

reason : (ws : List ℕ) (refusal : Refusal) → refusal ≢ NoMemory
    → (refusal ≡ NoMemory) ⊎ (IsOfBadCount ws refusal ⊎ MayRefuse ws refusal)
    → IsOfBadCount ws refusal ⊎ MayRefuse ws refusal
reason ws refusal other (inl none) = absurd (other none)
reason ws refusal other (inr why) = why

pub boots_made : (old new : Played) (ws : List ℕ) (r : Result Sessioned Refusal) (s : Sessioned) (lines : List Printed)
    → ws ≡ old.image → r ≡ Ok s → IsBooted (words_at_rest ws) s.broker → AreKeptAsHeard s.broker s.kept → AreBootWords ws
    → (length ws ≡ 0 → (r ≡ Err BadCount) ⊎ (r ≡ Err NoMemory))
    → new ≡ record (new_played s) { image = old.image } → lines ≡ Booted ∷ [] → Boots old lines new
boots_made old new ws r s lines image made booted kept sound none begins line =
    let is : session_of new ≡ s = ap session_of begins in
    record {
      result = Ok tt;
      line = line;
      sound = subst AreBootWords image sound;
      booted = subst (λ (x : Sessioned). IsBooted (words_at_rest old.image) x.broker) (sym is)
          (subst (λ (w : List ℕ). IsBooted (words_at_rest w) s.broker) image booted);
      kept = subst (λ (x : Sessioned). AreKeptAsHeard x.broker x.kept) (sym is) kept;
      begins = begins ∙ ap (λ (x : Sessioned). record (new_played x) { image = old.image }) (sym is);
      errors = tt;
      none = λ zero. absurd (never_made r s made (none (ap length image ∙ zero)));
      same = tt;
    }

pub boots_not : (old : Played) (ws : List ℕ) (r : Result Sessioned Refusal) (refusal : Refusal) (lines : List Printed)
    → ws ≡ old.image → r ≡ Err refusal → (refusal ≡ NoMemory) ⊎ (IsOfBadCount ws refusal ⊎ MayRefuse ws refusal)
    → (length ws ≡ 0 → (r ≡ Err BadCount) ⊎ (r ≡ Err NoMemory))
    → (refusal ≢ NoMemory) × (lines ≡ boot_line (Err refusal) ∷ []) → Boots old lines old
boots_not old ws r refusal lines image is why none said =
    let other = said.0 in
    record {
      result = Err refusal;
      line = said.1;
      sound = tt;
      booted = tt;
      kept = tt;
      begins = tt;
      errors = record {
        memory = other;
        why = subst (λ (w : List ℕ). IsOfBadCount w refusal ⊎ MayRefuse w refusal) image (reason ws refusal other why);
      };
      none = λ zero. ap Err (counted r refusal other is (none (ap length image ∙ zero)));
      same = refl;
    }
