-- What is asked, and what is refused, in the states for which a session stands.
use Rattle.std.proofs.Common.{◌≡◌, ◌∙◌, refl, sym, ap, subst, inl, inr, ℕ, List, [], ◌∷◌, ◌++◌, map}
use Rattle.std.specs.Prelude.{◌&&◌, if◌then◌else◌, length, reverse, Bool, true, false, Contains}
use Rattle.std.proofs.lemmas.List.Elements.{All-append, Contains-append_cases}
use Rattle.lists.proofs.Each.{All-from_members}
use Rattle.lists.proofs.Members.{Contains-cases, Contains-flat_map_cases, Contains-map_cases, Contains-none}
use Rattle.lists.proofs.Members.{Contains-reverse}
use Rattle.location_table.specs.Laws.{PlacesHaveWords}
use Rattle.location_words.specs.declared.pair.Pair.{Pair}
use Rattle.location_words.specs.Tables.{IsTable}
use Rattle.expansion_laws.specs.Keeping.{IsWordOf}
use Rattle.expansion_laws.specs.Requests.{Act as TreeAct, Request as TreeRequest, remove, replace}
use Rattle.expansion_laws.specs.Trees.{Tree, Use, a_single}
use Rattle.requests.specs.declared.request.Request.{Request}
use Rattle.requests.specs.Numbered.{ActFits, IsHeldIn}
use Rattle.requests.specs.Readings.{request_by, requests_by}
use Rattle.orientation.specs.Turns.{turn_eq}
use Rattle.orientation.specs.declared.turn.Turn.TheVariants.{Forward}
use Rattle.expansion_laws.specs.Equality.{tree_eq}
use Rattle.std.proofs.lemmas.List.{map-append}
use Rattle.sewing.specs.AsTrees.{TurnedTree, asked_of_tree, asked_of_trees, exchange_of}
use Rattle.shape_pool.specs.Laws.{IsSound, word_in}
use Rattle.shape_pool.specs.Rows.{Row}
use Rattle.script_text.specs.declared.command.Command.{Command}
use Rattle.script_text.specs.declared.command.Command.TheVariants as commands
use Rattle.script_text.specs.declared.command.Sel.{Sel}
use Rattle.step_history.specs.Composition.{Done}
use Rattle.brep_file.specs.declared.file.File.{File}
use Rattle.brep_file.specs.Sound.{IsSound as IsSoundFile}
use Rattle.file_loading.specs.Places.{KeepsWords}
use Rattle.file_loading.specs.Staying.{LoadingStays}
use Rattle.script_requests.specs.declared.fault.AskFault.{AskFault}
use Rattle.script_requests.specs.declared.fault.AskFault.TheVariants.{Script as AskScript, NoMemory as AskNoMemory}
use Rattle.script_requests.specs.declared.version.Version.{Version}
use Rattle.script_requests.specs.AsTrees.{HaveImages, IsReached, IsRight, IsWorded}
use Rattle.script_requests.specs.Asking.{request_for, target_use, Asks}
use Rattle.script_requests.specs.Named.{AreVersionsHeld, IsVersionHeld}
use Rattle.script_requests.specs.Numbered.{OrWants}
use Rattle.session.specs.declared.fault.SessionFault.{SessionFault}
use Rattle.session.specs.declared.fault.SessionFault.TheVariants.{Script, Cycle, Limit, NoMemory}
use Rattle.session.specs.Carrying.{AsksMore, Carries}
use Rattle.session.specs.Commands.{AsksOf, FailsFor, GoesOn, IsAccepted, IsAsItWas, IsAsking, IsRefusedFor}
use Rattle.session.specs.Faults.{of_ask}
use Rattle.session.specs.Refusals.{IsAskRefused, IsRefused}
use Rattle.session.specs.Standing.{AreVersions, IsAsked, IsDatumOf, IsSession, Stands}
use Rattle.session.specs.States.{asked_too, State}
use Rattle.session.specs.Views.{View}
use Rattle.session.proofs.FirstWords.{empty-word, place-word}
use Rattle.session.proofs.Staying.{stands-still}

-- ---- commands that ask
asks-carries : (f : File) (s : State) (c : Command) (new : State) → IsAsking c → AsksMore f s c new → Carries f s c new
asks-carries f s (commands.Replace sel tgt) new is h = h
asks-carries f s (commands.Remove sel) new is h = h
asks-carries f s (commands.Merge names) new is h = h
asks-carries f s (commands.Sew names) new is h = h
asks-carries f s commands.Apply new is h = absurd is
asks-carries f s commands.Undo new is h = absurd is
asks-carries f s (commands.Until kind) new is h = absurd is
asks-carries f s commands.Prune new is h = absurd is
asks-carries f s commands.OutputFirst new is h = absurd is

amiss-refused : (f : File) (s : State) (line : ℕ) (c : Command) (fault : SessionFault) → IsAsking c →
    IsAskRefused f s line c fault → IsRefused f s line c fault
amiss-refused f s line (commands.Replace sel tgt) fault is h = h
amiss-refused f s line (commands.Remove sel) fault is h = h
amiss-refused f s line (commands.Merge names) fault is h = h
amiss-refused f s line (commands.Sew names) fault is h = h
amiss-refused f s line commands.Apply fault is h = absurd is
amiss-refused f s line commands.Undo fault is h = absurd is
amiss-refused f s line (commands.Until kind) fault is h = absurd is
amiss-refused f s line commands.Prune fault is h = absurd is
amiss-refused f s line commands.OutputFirst fault is h = absurd is

refused-amiss : (f : File) (s : State) (line : ℕ) (c : Command) (fault : SessionFault) → IsAsking c →
    IsRefused f s line c fault → IsAskRefused f s line c fault
refused-amiss f s line (commands.Replace sel tgt) fault is h = h
refused-amiss f s line (commands.Remove sel) fault is h = h
refused-amiss f s line (commands.Merge names) fault is h = h
refused-amiss f s line (commands.Sew names) fault is h = h
refused-amiss f s line commands.Apply fault is h = absurd is
refused-amiss f s line commands.Undo fault is h = absurd is
refused-amiss f s line (commands.Until kind) fault is h = absurd is
refused-amiss f s line commands.Prune fault is h = absurd is
refused-amiss f s line commands.OutputFirst fault is h = absurd is

right-accepts : (f : File) (s : State) (line : ℕ) (c : Command) → IsAsking c → IsRight f s.steps line c →
    (fault : SessionFault) → IsAskRefused f s line c fault → ⊥
right-accepts f s line c is right (Script fault) h = right fault h
right-accepts f s line c is right (Cycle walk) h = h
right-accepts f s line c is right (Limit which n) h = h
right-accepts f s line c is right NoMemory h = h

-- ---- the words that are asked are those of the file's places
abbrev BringsOver : File → List TreeRequest → Type 0
BringsOver f rs = (r : TreeRequest) (by : Use) → Contains rs r → r.act ≡ replace by → IsWordOf (IsDatumOf f) by.word

abbrev word-of-act : TreeAct → List Pair
word-of-act remove = []
word-of-act (replace by) = by.word

no-words : (f : File) (a : TreeAct) (by : Use) → a ≡ replace by → IsWordOf (IsDatumOf f) (word-of-act a) →
    IsWordOf (IsDatumOf f) by.word
no-words f a by e h = subst (λ x. IsWordOf (IsDatumOf f) (word-of-act x)) e h

brings-mapped : (f : File) (sel : Sel) (a : TreeAct) → IsWordOf (IsDatumOf f) (word-of-act a) → (xs : List Tree) →
    BringsOver f (map (request_for f sel a) xs)
brings-mapped f sel a h xs = λ r by m e.
    let from = Contains-map_cases (request_for f sel a) r xs m in
    no-words f a by (ap (λ (q : TreeRequest). q.act) from.2 ∙ e) h

one-exchange : (first : Tree) (m : TurnedTree) (b : Bool) (r : TreeRequest) →
    Contains (if b then [] else exchange_of first m ∷ []) r → exchange_of first m ≡ r
one-exchange first m true r h = absurd (Contains-none r h)
one-exchange first m false r h =
    elim (Contains-cases (exchange_of first m) r [] h) [ inl e ↦ e | inr k ↦ absurd (Contains-none r k) ]

brings-joined : (f : File) (first : Tree) (members : List TurnedTree) → BringsOver f (asked_of_trees first members)
brings-joined f first members = λ r by m e.
    let from = Contains-flat_map_cases (asked_of_tree first) r members m in
    let one = one-exchange first from.0 (turn_eq from.0.turn Forward && tree_eq from.0.tree first) r from.2 in
    no-words f (replace (a_single from.0.turn [] first)) by (ap (λ (q : TreeRequest). q.act) one ∙ e)
    (empty-word (IsDatumOf f))

asked-over : PlacesHaveWords → (f : File) → IsSoundFile f → (ds : List Done) (c : Command) (asked : List TreeRequest) →
    Asks f ds c asked → BringsOver f asked
asked-over laws f sound ds (commands.Replace sel tgt) asked h =
    subst (BringsOver f) (sym h.5)
    (brings-mapped f sel (replace (target_use f tgt h.0))
    (place-word laws f.locations sound.tables.locations tgt.location)
    h.1)
asked-over laws f sound ds (commands.Remove sel) asked h =
    subst (BringsOver f) (sym h.2) (brings-mapped f sel remove (empty-word (IsDatumOf f)) h.0)
asked-over laws f sound ds (commands.Merge []) asked h = absurd h
asked-over laws f sound ds (commands.Merge (name ∷ names)) asked h =
    subst (BringsOver f) (sym h.5) (brings-joined f h.0 h.1)
asked-over laws f sound ds (commands.Sew []) asked h = absurd h
asked-over laws f sound ds (commands.Sew (n ∷ ns)) asked h =
    subst (BringsOver f) (sym h.1.5) (brings-joined f h.1.0 h.1.1)
asked-over laws f sound ds commands.Apply asked h = absurd h
asked-over laws f sound ds commands.Undo asked h = absurd h
asked-over laws f sound ds (commands.Until kind) asked h = absurd h
asked-over laws f sound ds commands.Prune asked h = absurd h
asked-over laws f sound ds commands.OutputFirst asked h = absurd h

brings-both : (f : File) (old more : List TreeRequest) → BringsOver f old → BringsOver f more →
    BringsOver f (old ++ more)
brings-both f old more h k = λ r by m e.
    elim (Contains-append_cases old more r m) [ inl p ↦ h r by p e | inr p ↦ k r by p e ]

-- ---- versions have the images of the steps
have-images : (f : File) (words : List (List Pair)) (rows : List Row) (vs : List Version) (ds : List Done) →
    AreVersions f words rows vs ds → HaveImages f words rows vs ds
have-images f words rows [] [] h = tt
have-images f words rows [] (d ∷ ds) h = absurd h
have-images f words rows (v ∷ vs) [] h = absurd h
have-images f words rows (v ∷ vs) (d ∷ ds) h = (h.0.images, have-images f words rows vs ds h.1)

each-held : (f : File) (words : List (List Pair)) (rows : List Row) (vs : List Version) (ds : List Done) →
    AreVersions f words rows vs ds → (v : Version) → Contains vs v → IsVersionHeld rows v
each-held f words rows [] ds h v m = absurd (Contains-none v m)
each-held f words rows (w ∷ vs) [] h v m = absurd h
each-held f words rows (w ∷ vs) (d ∷ ds) h v m = elim (Contains-cases w v vs m) [
  | inl e ↦ subst (IsVersionHeld rows) e h.0.images.held
  | inr k ↦ each-held f words rows vs ds h.1 v k
]

pub versions-held : (v : View) → IsSession v → (versions : List Version) → versions ≡ v.versions →
    AreVersionsHeld v.rows versions
versions-held v held versions e =
    subst (AreVersionsHeld v.rows) (sym e)
    (All-from_members (IsVersionHeld v.rows) v.versions
    (λ w m.
    each-held v.file v.words v.rows (reverse v.versions) held.0.steps held.1.versions w
    (Contains-reverse w v.versions m)))

pub is-loaded : (v : View) → (held : IsSession v) → IsReached v.file v.words v.rows (reverse v.versions) held.0.steps
is-loaded v held = record {
  loaded = held.1.stocked.loaded;
  kinds = held.1.stocked.kinds;
  images = have-images v.file v.words v.rows (reverse v.versions) held.0.steps held.1.versions;
}

-- ---- a session whose table of words has grown
module _ (staying : LoadingStays) (places : PlacesHaveWords) (v : View) (sound : IsSound v.rows)
    (words : List (List Pair)) (kept : KeepsWords v.words words) (table : IsTable words) where
  a-mid : List Request → View
  a-mid asked = record v { words = words; asked = asked }

  mid-stands : (s : State) → Stands v s → Stands (record v { words = words }) s
  mid-stands s st = stands-still staying v words sound kept table s st

  reached : (s : State) → Stands v s → IsReached v.file words v.rows (reverse v.versions) s.steps
  reached s st =
      let t = mid-stands s st in record {
        loaded = t.stocked.loaded;
        kinds = t.stocked.kinds;
        images = have-images v.file words v.rows (reverse v.versions) s.steps t.versions;
      }

  pub mid-session : (asked : List Request) → asked ≡ v.asked → IsSession v →
      IsSession (record v { words = words; asked = asked })
  unfolding a-mid
  mid-session asked e held = subst IsSession (ap a-mid (sym e)) (held.0, mid-stands held.0 held.1)

  pub as-it-was : (asked : List Request) → asked ≡ v.asked → IsAsItWas v (record v { words = words; asked = asked })
  unfolding a-mid
  as-it-was asked e =
      subst (λ z. IsAsItWas v z) (ap a-mid (sym e)) (record { is = refl; kept = kept; stands = mid-stands })

  module _ (line : ℕ) (c : Command) (is : IsAsking c) where
    pub ask-refused : (fault : AskFault) →
        OrWants (FailsFor v.file words v.rows (reverse v.versions) line c) fault →
        IsRefusedFor v line c (of_ask fault)
    ask-refused (AskScript fault) h = λ s st.
        inr (amiss-refused v.file s line c (Script fault) is (h s.steps (reached s st)))
    ask-refused AskNoMemory h = λ s st. inl refl

    module _ (more : List Request) (asks : AsksOf v.file words v.rows (reverse v.versions) line c more) where
      pub ask-accepted : IsAccepted v line c
      ask-accepted = λ s st fault refused.
          right-accepts v.file s line c is (asks s.steps (reached s st)).1 fault
          (refused-amiss v.file s line c fault is refused)

      added : List TreeRequest
      added = requests_by (word_in words) v.rows more

      asked-on : (s : State) → Stands v s → IsAsked v.file words v.rows (v.asked ++ more)
          (asked_too s (requests_by (word_in words) v.rows more))
      asked-on s st =
          let old = (mid-stands s st).asked in
          let own = (asks s.steps (reached s st)).0 in record {
            held = All-append (IsHeldIn v.rows) v.asked more old.held own.held;
            worded = All-append (IsWorded (length words)) v.asked more old.worded own.worded;
            fit =
                All-append (λ (r : Request). ActFits v.rows r.source.0 r.act) v.asked more old.fit own.fit;
            stands =
                ap (λ l. l ++ requests_by (word_in words) v.rows more) old.stands ∙
                sym (map-append (request_by (word_in words) v.rows) v.asked more);
            over_datums =
                brings-both v.file s.requests (requests_by (word_in words) v.rows more) old.over_datums
                (asked-over places v.file st.sound s.steps c (requests_by (word_in words) v.rows more) own.asks);
          }

      next-stands : (s : State) → Stands v s →
          Stands (record v { words = words; asked = v.asked ++ more })
          (asked_too s (requests_by (word_in words) v.rows more))
      next-stands s st =
          let t = mid-stands s st in record {
            sound = t.sound;
            within = t.within;
            stocked = record {
              loaded = t.stocked.loaded;
              kinds = t.stocked.kinds;
              origins = t.stocked.origins;
              held = t.stocked.held;
              over_datums = t.stocked.over_datums;
            };
            first_held = t.first_held;
            first = t.first;
            first_word = t.first_word;
            start_held = t.start_held;
            start = t.start;
            versions = t.versions;
            asked = asked-on s st;
            rule = t.rule;
            output = t.output;
            version = t.version;
            carried = t.carried;
          }

      pub ask-goes-on : (asked : List Request) → asked ≡ v.asked ++ more →
          GoesOn v (record v { words = words; asked = asked }) c
      unfolding a-mid
      ask-goes-on asked e =
          subst (λ z. GoesOn v z c) (ap a-mid (sym e))
          (λ s st. (
            asked_too s (requests_by (word_in words) v.rows more),
            asks-carries v.file s c (asked_too s (requests_by (word_in words) v.rows more)) is
                (requests_by (word_in words) v.rows more, (asks s.steps (reached s st)).0.asks, refl),
            next-stands s st,
          ))
