-- What the memories of a desk show is the rules' desk.
use Prim.Native.Nat.{ℕ, suc, ◌+◌, ◌*◌, ◌%◌, ◌≤◌, ◌<◌}
use mathlib.Core.Path.{◌≡◌, refl, sym, ap, subst, ◌∙◌}
use mathlib.Core.Bool.{Bool, true, false}
use mathlib.Core.List.{List, [], ◌∷◌, map}
use mathlib.Core.Option.{Option, none, some}
use native.Mathlib.Omega.{arith}
use lib.Dec.{ltb, eqb}
use lib.ListN.{length, get_or, take, get_or-eq_default}
use borrow.Author.Tests.{ltb-true, ltb-false, eq-eqb, ne_eqb}
use Rattle.occurrences.specs.Count.{bit, count}
use Rattle.occurrences.proofs.Counts.{count_head}
use Rattle.rules.specs.Limits.{files, places}
use Rattle.rules.specs.State.{Rec, Req, idle, reading, writing, read_done, write_done, Wanted, Offered, Acc, Store, Timer, Hap, Built, File, unbuilt, built}
use Rattle.rules.specs.Requests.{acc_at}
use Rattle.rules.specs.Buffers.{lies}
use Rattle.rules.specs.Memories.{share_at, share_of, buffers_of, buffer_at}
use Rattle.rules.specs.Desk.{Desk, file_of}
use Rattle.rules.specs.Allocation.{Alloc, place_of, up_from}
use Rattle.rules.proofs.Split.{by_cases, pick_true, pick-false}
use Rattle.laws.specs.EightFiles.{EightFiles, desk_of}
use Rattle.laws.specs.Counts.{count_t, places_of}
use Rattle.laws.specs.Entries.{accs_of, timers_of, Calm}
use Rattle.laws.specs.Outstanding.{req_of, req_at, waits_read, waits_write, awaits}
use Rattle.laws.specs.Runs.{OnFile}
use Rattle.laws.specs.Sides.{Fitting}
use Rattle.laws.proofs.Lists.{get_or-all}
use Rattle.laws.proofs.Room.{good-sized}
use Rattle.shares.specs.Back.{read_back}
use Rattle.shares.specs.Sound.{store_at}
use Rattle.shares.proofs.Back.{back}
use Rattle.segment.specs.Layout.{file_width, file_row_at}
use Rattle.segment.specs.Table.{row}
use Rattle.segment.specs.Fields.{entry_words, entry_of, file_row_of, place_row_of, file_at}
use Rattle.memory.specs.Memories.{Memories}
use Rattle.memory.specs.Image.{acc_of, req_words, file_words, place_words, rq_of, wq_of, queue_words, port_words, timer_words}
use Rattle.memory.specs.Stands.{buffers_at, FileBytes}
use Rattle.memory.specs.Fine.{Fine, StandsFor}
use Rattle.memory.proofs.Segments.{segment-file}
use Rattle.runs.specs.OneFile.{OneFile, file_in}
use Rattle.runs.specs.Shown.{geo_by, records_in, records_of, read_by, write_by, done_by, request_by, row_in, request_in, accessor_by, place_by, timer_by, file_shown, desk_shown}
use Rattle.runs.proofs.Naming.{Names, places-back, passed, met}
use Rattle.runs.proofs.OneFile.{placed, image_of, file-is}

-- a bit and a side, read back

bit-back : (t : Bool) → eqb (bit t) 1 ≡ t
bit-back true = refl
bit-back false = refl

side-back : (t : Bool) → eqb (1 + bit t) 2 ≡ t
side-back true = refl
side-back false = refl

side-open : (t : Bool) → eqb (1 + bit t) 0 ≡ false
side-open true = refl
side-open false = refl

-- a list, from its elements
all_up : {A : Type 0} (g : ℕ → A) (a : A) (l : List A) (k : ℕ) → ((i : ℕ) → i < length l → g (k + i) ≡ get_or l i a) → map g (up_from k (length l)) ≡ l
unfolding up_from
all_up g a [] k e = refl
all_up g a (x ∷ l) k e =
    let z : k + 0 ≡ k = omega arith in
    rw (ap g (sym z) ∙ e 0 (omega arith), all_up g a l (suc k) (λ i h. let y : suc k + i ≡ k + suc i = omega arith in ap g y ∙ e (suc i) (omega arith))) refl

-- the requests that wait

is_read : (q : Req) → 1 ≤ waits_read q → (w : Wanted) × (q ≡ reading w)
unfolding waits_read
is_read idle h = absurd (omega arith)
is_read (reading w) h = (w, refl)
is_read (writing w) h = absurd (omega arith)
is_read (read_done w) h = absurd (omega arith)
is_read (write_done w) h = absurd (omega arith)

is-write : (q : Req) → 1 ≤ waits_write q → (w : Offered) × (q ≡ writing w)
unfolding waits_write
is-write idle h = absurd (omega arith)
is-write (reading w) h = absurd (omega arith)
is-write (writing w) h = (w, refl)
is-write (read_done w) h = absurd (omega arith)
is-write (write_done w) h = absurd (omega arith)

-- an accessor's row, read back
acc-back : (a : Acc) (q : Req) → q ≡ a.req → accessor_by (place_row_of (place_words (some a))) q ≡ some a
unfolding accessor_by place_row_of place_words
acc-back a q e =
    pick-false (eqb (1 + bit a.writer) 0) _ _ (side-open a.writer)
    ∙ rw (side-back a.writer, bit-back a.extended, bit-back a.typed, bit-back a.keep, bit-back a.first, e) refl

-- a built file, and the words that stand for it
module _ (f : ℕ) (b : Built) (F : Fine b) (eight : length b.accs ≡ places) where
  abbrev image : OneFile
  image = image_of f (built b)

  abbrev words : ℕ → List ℕ
  words p = req_words (place_of f p) (req_at b.accs p)

  -- a place whose request waits is one of the eight
  below : (p : ℕ) → 1 ≤ awaits (req_at b.accs p) → p < places
  unfolding req_of waits_read waits_write
  below p h = by_cases (ltb p places) (ltb-true p places) (λ t. absurd (omega (arith, h, ap awaits (ap req_of (get_or-eq_default b.accs none {n = p} (omega (arith, eight, ltb-false p places t)))))))

  names-reads : Names f words b.rq
  unfolding entry_of req_words entry_words
  names-reads y h =
      let (w, e) = is_read (req_at b.accs y) (omega (arith, h, (F.queues y).reads)) in
      (ap (λ (q : Req). (entry_of (req_words (place_of f y) q)).place) e, below y (omega (arith, h, (F.queues y).reads)))

  names-writes : Names f words b.wq
  unfolding entry_of req_words entry_words
  names-writes y h =
      let (w, e) = is-write (req_at b.accs y) (omega (arith, h, (F.queues y).writes)) in
      (ap (λ (q : Req). (entry_of (req_words (place_of f y) q)).place) e, below y (omega (arith, h, (F.queues y).writes)))

  timers-back : (ts : List Timer) → ((y : ℕ) → 1 ≤ count_t y ts → y < places) → map timer_by (map (λ t. timer_words (placed f t)) ts) ≡ ts
  unfolding timer_by place_by entry_of timer_words entry_words placed place_of count_t places_of count
  timers-back [] n = refl
  timers-back (t ∷ ts) n =
      let e : (places * f + t.place) % places ≡ t.place = omega (arith, n t.place (count_head t.place (places_of ts))) in
      rw (e, timers-back ts (λ y h. n y (omega arith))) refl

  -- the request at a place
  module _ (p : ℕ) (k : p < places) where
    -- what lies in its buffer, and what its lists hold
    lying : (q : Req) → req_at b.accs p ≡ q → take (length (lies q)) (buffer_at p b.buffers) ≡ lies q
    lying q e = subst (λ (r : Req). take (length (lies r)) (buffer_at p b.buffers) ≡ lies r) e (F.buffers.each p k)

    ports-at : (q : Req) → req_at b.accs p ≡ q → get_or image.ports p [] ≡ port_words (place_of f p) q
    unfolding image_of acc_of acc_at
    ports-at q e = get_or-all (λ i. port_words (place_of f i) (req_of (acc_of (built b) i))) places p [] k ∙ ap (port_words (place_of f p)) e

    no_read : (q r : Req) → req_at b.accs p ≡ q → waits_read q ≡ 0 → request_by (place_of f p) read_by image.reads r ≡ r
    unfolding image_of queue_words rq_of acc_of acc_at
    no_read q r e z = passed f words read_by p b.rq r names-reads ((F.queues p).reads ∙ ap waits_read e ∙ z)

    no_write : (q r : Req) → req_at b.accs p ≡ q → waits_write q ≡ 0 → request_by (place_of f p) (write_by (buffer_at p b.buffers)) image.writes r ≡ r
    unfolding image_of queue_words wq_of acc_of acc_at
    no_write q r e z = passed f words (write_by (buffer_at p b.buffers)) p b.wq r names-writes ((F.queues p).writes ∙ ap waits_write e ∙ z)

    abbrev side : ℕ
    side = (row_in image p).side

    done : (q : Req) → req_at b.accs p ≡ q → waits_read q ≡ 0 → waits_write q ≡ 0
        → request_in f image p ≡ request_by (place_of f p) (done_by (eqb side 2) (buffer_at p b.buffers)) (port_words (place_of f p) q) idle
    unfolding request_in image_of buffers_of
    done q e y z = no_read q _ e y ∙ no_write q _ e z ∙ ap (λ l. request_by (place_of f p) (done_by (eqb side 2) (buffer_at p b.buffers)) l idle) (ports-at q e)

    waiting-read : (q : Wanted) → req_at b.accs p ≡ reading q → request_in f image p ≡ reading q
    unfolding request_in image_of queue_words rq_of acc_of acc_at waits_read
    waiting-read q e =
        met f words read_by p b.rq _ names-reads (omega (arith, (F.queues p).reads, ap waits_read e))
        ∙ ap (λ (r : Req). read_by (entry_of (req_words (place_of f p) r))) e
        ∙ (unfold read_by entry_of req_words entry_words in rw (bit-back q.by_words, bit-back q.keep) refl)

    waiting-write : (q : Offered) → req_at b.accs p ≡ writing q → request_in f image p ≡ writing q
    unfolding request_in image_of buffers_of queue_words wq_of acc_of acc_at waits_read waits_write lies
    waiting-write q e =
        no_read (writing q) _ e refl
        ∙ met f words (write_by (buffer_at p b.buffers)) p b.wq _ names-writes (omega (arith, (F.queues p).writes, ap waits_write e))
        ∙ ap (λ (r : Req). write_by (buffer_at p b.buffers) (entry_of (req_words (place_of f p) r))) e
        ∙ (unfold write_by entry_of req_words entry_words in rw (bit-back q.by_words, lying (writing q) e) refl)

    request-is : (q : Req) → req_at b.accs p ≡ q → Fitting (eqb side 2) q → request_in f image p ≡ q
    unfolding waits_read waits_write port_words request_by Fitting lies done_by entry_of req_words entry_words
    request-is idle e s = done idle e refl refl
    request-is (reading q) e s = waiting-read q e
    request-is (writing q) e s = waiting-write q e
    request-is (read_done q) e s =
        done (read_done q) e refl refl
        ∙ pick_true (eqb (place_of f p) (place_of f p)) _ _ (eq-eqb (place_of f p) (place_of f p) refl)
        ∙ rw (s, lying (read_done q) e) refl
    request-is (write_done q) e s =
        done (write_done q) e refl refl
        ∙ pick_true (eqb (place_of f p) (place_of f p)) _ _ (eq-eqb (place_of f p) (place_of f p) refl)
        ∙ rw s refl

    -- the accessor at a place
    row_at : (o : Option Acc) → get_or b.accs p none ≡ o → row_in image p ≡ place_row_of (place_words o)
    unfolding image_of acc_of acc_at
    row_at o e = ap place_row_of (get_or-all (λ i. place_words (acc_of (built b) i)) places p [] k ∙ ap place_words e)

    acc-is : accessor_by (row_in image p) (request_in f image p) ≡ get_or b.accs p none
    acc-is = go (get_or b.accs p none) refl
      where
        go : (o : Option Acc) → get_or b.accs p none ≡ o → accessor_by (row_in image p) (request_in f image p) ≡ o
        go none e = ap (λ r. accessor_by r (request_in f image p)) (row_at none e) ∙ (unfold accessor_by place_row_of place_words in refl)
        go (some a) e =
            let w : eqb side 2 ≡ a.writer = ap (λ r. eqb r.side 2) (row_at (some a) e) ∙ (unfold place_row_of place_words in side-back a.writer) in
            ap (λ r. accessor_by r (request_in f image p)) (row_at (some a) e)
            ∙ acc-back a _ (request-is a.req (unfold req_of in ap req_of e) (subst (λ (t : Bool). Fitting t a.req) (sym w) (F.sides p a (unfold acc_at in e)).request))

  abbrev accessor : ℕ → Option Acc
  accessor p = accessor_by (row_in image p) (request_in f image p)

  accs-are : map accessor (up_from 0 places) ≡ b.accs
  accs-are =
      subst (λ (n : ℕ). map accessor (up_from 0 n) ≡ b.accs) eight
      (all_up accessor none b.accs 0 (λ i h. let z : 0 + i ≡ i = omega arith in ap accessor z ∙ acc-is i (omega (arith, h, eight))))

  store_is : store_at b.geo b.store.share b.store.block b.store.spent (length b.store.recs) ≡ b.store
  unfolding store_at
  store_is =
      ap (λ (rs : List Rec). record { block = b.store.block; spent = b.store.spent; recs = rs; share = b.store.share })
      (back b.geo b.store (good-sized b.geo F.room.geo) F.room.holds)

  built-is : b.past ≡ [] → file_shown f image ≡ built b
  unfolding file_shown image_of file_row_of file_words geo_by share_of buffers_of queue_words rq_of wq_of timers_of acc_of acc_at
  built-is calm =
      pick-false (eqb b.geo.words 0) _ _ (ne_eqb b.geo.words 0 (λ z. omega (arith, F.room.geo.words-low, z)))
      ∙ one store_is accs-are (places-back f words b.rq names-reads) (places-back f words b.wq names-writes)
      (timers-back b.timers (λ y h. below y (omega (arith, h, (F.queues y).times)))) (sym calm)
    where
      one : {s s' : Store} {l l' : List (Option Acc)} {r r' w w' : List ℕ} {t t' : List Timer} {h h' : List Hap}
          → s ≡ s' → l ≡ l' → r ≡ r' → w ≡ w' → t ≡ t' → h ≡ h'
          → built (record { geo = b.geo; store = s; accs = l; buffers = b.buffers; rq = r; wq = w; timers = t; past = h })
          ≡ built (record { geo = b.geo; store = s'; accs = l'; buffers = b.buffers; rq = r'; wq = w'; timers = t'; past = h' })
      one e₁ e₂ e₃ e₄ e₅ e₆ = rw (e₁, e₂, e₃, e₄, e₅, e₆) refl

module _ (m : Memories) (d : Desk) (s : Alloc) (S : StandsFor m d s) where
  file-shown : (f : ℕ) → f < files → file_shown f (file_in f m) ≡ file_of d f
  file-shown f h = go (file_of d f) refl (S.fine f h) (S.agreed.calm f h) (S.agreed.agrees f h).eight
    where
      go : (x : File) → file_of d f ≡ x → OnFile Fine x → Calm x → length (accs_of x) ≡ places → file_shown f (file_in f m) ≡ x
      go unbuilt u F c e =
          unfold file_shown file_in in
          pick_true (eqb (file_row_of (row m.segment (file_row_at f) file_width)).words 0) _ _
          (ap (λ (r : List ℕ). eqb (file_row_of r).words 0) (segment-file S.stands.segment f h ∙ ap file_words u) ∙ (unfold file_row_of file_words in refl))
      go (built b) u F c e =
          unfold OnFile accs_of in
          ap (file_shown f) (file-is m d s S f h (λ z. absurd (subst (OnFile (λ c. ⊥)) (sym z ∙ u) tt)) ∙ ap (image_of f) u) ∙ built-is f b F e c

  pub desk-shown : desk_shown m ≡ d
  unfolding desk_shown desk_of EightFiles file_of
  desk-shown =
      ap (λ (l : List File). record { files = l })
      (subst (λ (n : ℕ). map shown_at (up_from 0 n) ≡ d.files) S.agreed.eight
      (all_up shown_at unbuilt d.files 0 (λ f h. let z : 0 + f ≡ f = omega arith in ap shown_at z ∙ file-shown f (omega (arith, h, S.agreed.eight)))))
    where
      shown_at : ℕ → File
      shown_at f = file_shown f (file_in f m)

  pub records-are : (f : ℕ) → f < files → records_in f m ≡ records_of (file_of d f)
  unfolding records_in file_at
  records-are f h = go (file_of d f) (segment-file S.stands.segment f h) (S.fine f h) (S.stands.bodies.each f h)
    where
      go : (x : File) → row m.segment (file_row_at f) file_width ≡ file_words x → OnFile Fine x → FileBytes x (share_at f m.blocks) (buffers_at f m.buffers)
          → read_back (geo_by (file_at m.segment f)) (share_at f m.blocks) (file_at m.segment f).block (file_at m.segment f).spent (file_at m.segment f).held ≡ records_of x
      go unbuilt e F B = rw e (unfold file_row_of file_words read_back records_of in refl)
      go (built b) e F B =
          unfold file_row_of file_words records_of OnFile FileBytes geo_by in
          rw (e, B.0) (back b.geo b.store (good-sized b.geo F.room.geo) F.room.holds)

-- The same memories stand for one desk only.
pub one-meaning : (m : Memories) (d e : Desk) (s t : Alloc) → StandsFor m d s → StandsFor m e t → d ≡ e
one-meaning m d e s t S T = sym (desk-shown m d s S) ∙ desk-shown m e t T
