use Rattle.std.proofs.Common.{◌≡◌, ℕ, List, length, refl, sym, ap, subst, ◌∙◌}
use Rattle.words.specs.PlainQueue.{Value}
use Rattle.words.specs.declared.told.Told.{Told}
use Rattle.arena.specs.Content.{kept_content}
use Rattle.arena.specs.Shape.{Shape}
use Rattle.arena.specs.declared.form.Form.TheVariants.{OfItems}
use Rattle.sound_words.specs.Kept.{Kept, kept_in, kept_of}
use Rattle.sound_words.specs.Told.{tells_by}
use Rattle.renewal.specs.Renewal.{Renewal}
use Rattle.renewal.specs.Words.{FitFresh, IsRenewalOf, MayBeRenewed, MayBecome, block_renewed, renewal_of}
use Rattle.renewal.proofs.Kept.{kept_may}
use Rattle.renewal.proofs.Words.{block_same}
use Rattle.renewal.proofs.fresh.fresh_block.Goals as goal

-- what the queue holds
content_of : (s : Shape) (ws : List ℕ) (queue : Kept) → queue ≡ record { form = OfItems; shape = s; words = ws }
    → kept_content queue.shape (kept_of queue) ≡ kept_content s (kept_in s ws)
content_of s ws queue is = ap (λ (q : Kept). kept_content q.shape (kept_of q)) is

-- what is to be written
written : (to s : Shape) (ws : List ℕ) (queue : Kept) (items content : List Value) (tells : List Told)
    → queue ≡ record { form = OfItems; shape = s; words = ws } → items ≡ kept_content queue.shape (kept_of queue) → content ≡ items
    → tells ≡ tells_by s (kept_in s ws) → ◌≡◌ {A = Renewal} (record { shape = to; content = content; tells = tells }) (renewal_of to s (kept_in s ws))
written to s ws queue items content tells queue_is items_are content_is tells_are =
    ap (λ (vs : List Value). let r : Renewal = record { shape = to; content = vs; tells = tells } in r) (content_is ∙ items_are ∙ content_of s ws queue queue_is)
    ∙ ap (λ (ts : List Told). let r : Renewal = record { shape = to; content = kept_content s (kept_in s ws); tells = ts } in r) tells_are

room_of : (to s : Shape) (ws : List ℕ) (queue : Kept) (count : ℕ) → queue ≡ record { form = OfItems; shape = s; words = ws }
    → count ≡ length (kept_content queue.shape (kept_of queue)) → FitFresh to count → FitFresh to (length (kept_content s (kept_in s ws)))
room_of to s ws queue count queue_is counted fits = subst (FitFresh to) (counted ∙ ap length (content_of s ws queue queue_is)) fits

pub new-requires : goal.new-requires
new-requires g c =
    let to : Shape = c.args.to.now in
    let s : Shape = c.args.layout.now in
    let ws : List ℕ = g.W.KeptWords.kept_words c.args.block.now in
    let room : FitFresh to c.count.result = c.fits.ensures.fits.0 c.if-not-fits.false in
    let is : ◌≡◌ {A = Renewal} (record { shape = to; content = c.in-Ok.items.items; tells = c.tells.result }) (renewal_of to s (kept_in s ws)) =
    written to s ws c.new-queue.result c.in-Ok.items.items c.in-Ok.items.items c.tells.result c.new-queue.ensures c.in-Ok.ensures refl c.tells.ensures in
    subst MayBeRenewed (sym is)
    (kept_may s (kept_in s ws) to c.requires.sound.sound c.requires.kind c.fits.ensures.counts
    (room_of to s ws c.new-queue.result c.count.result c.new-queue.ensures c.count.ensures.value room))

pub returns-in-Ok-new-clause-renewed : goal.returns-in-Ok-new-clause-renewed
returns-in-Ok-new-clause-renewed g c =
    let to : Shape = c.args.to.now in
    let s : Shape = c.args.layout.now in
    let ws : List ℕ = g.W.KeptWords.kept_words c.args.block.now in
    c.in-Ok-new.ensures
    ∙ ap block_renewed (written to s ws c.new-queue.result c.in-Ok.items.items c.in-Ok.items.items c.tells.result c.new-queue.ensures c.in-Ok.ensures refl c.tells.ensures)

pub returns-in-Ok-new-clause-same : goal.returns-in-Ok-new-clause-same
returns-in-Ok-new-clause-same g c =
    let to : Shape = c.args.to.now in
    let s : Shape = c.args.layout.now in
    let ws : List ℕ = g.W.KeptWords.kept_words c.args.block.now in
    let room : FitFresh to c.count.result = c.fits.ensures.fits.0 c.if-not-fits.false in
    let may : MayBecome s ws to = record {
      sound = c.requires.sound;
      counts = c.count.ensures.counts;
      new_counts = c.fits.ensures.counts;
      kind = c.requires.kind;
      clients = c.requires.clients;
      room = room_of to s ws c.new-queue.result c.count.result c.new-queue.ensures c.count.ensures.value room;
    } in
    subst (IsRenewalOf s ws to) (sym (returns-in-Ok-new-clause-renewed g c)) (block_same s ws to may)

pub returns-in-Ok-new-clause-room : goal.returns-in-Ok-new-clause-room
returns-in-Ok-new-clause-room g c =
    room_of c.args.to.now c.args.layout.now (g.W.KeptWords.kept_words c.args.block.now) c.new-queue.result c.count.result c.new-queue.ensures
    c.count.ensures.value (c.fits.ensures.fits.0 c.if-not-fits.false)
