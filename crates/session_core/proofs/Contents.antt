-- Parts that read a file first.
use Rattle.std.proofs.Common.{◌≡◌, ℕ, List, ◌++◌, refl, sym, ap, subst, ◌∙◌}
use Rattle.std.specs.Prelude.{IfSome}
use Rattle.std.specs.Global.{Vec}
use Rattle.std.specs.declared.option.Option.{Option}
use Rattle.std.specs.declared.option.Option.TheVariants.{None, Some}
use Rattle.std.specs.declared.result.Result.{Result}
use Rattle.std.specs.declared.result.Result.TheVariants.{Ok, Err}
use Rattle.io_ends.specs.Known.{Contents, IsReadOf, TakesContent, content_now}
use Rattle.io_ends.specs.declared.ends.FileRead.{FileRead}
use Rattle.io_ends.specs.declared.ends.FileRead.TheVariants as file
use Rattle.op_keys.specs.declared.order.Exit.{Exit}
use Rattle.value_core.specs.Reading.{text_read}
use Rattle.core_rules.specs.Core.{CoreState}
use Rattle.report_text.specs.declared.watched.WatchFault.TheVariants as watch
use Rattle.session_rules.specs.Outputs.{exits}
use Rattle.session_rules.specs.Outside.{Outside}
use Rattle.session_rules.specs.Parts.{Turn, Part, Does}
use Rattle.session_rules.specs.Scenes.{Scene, at_content, contents_after, expecting}
use Rattle.session_rules.specs.Steps.{Counting}
use Rattle.session_rules.specs.Watching.{content_found, faulty, text_found}
use Rattle.session_core.specs.declared.stop.Stop.{Stop}
use Rattle.session_core.specs.Doing.{DoesFrom, Moment, Plays, Stops, scene_of}
use Rattle.session_core.proofs.Played.{at}
use Rattle.session_core.proofs.Playing.{StopsFrom}

-- what is done by the content of a file is, for what a read of it finds, this part
module _ (by : Option (List ℕ) → Part) (p : Part) (path : List ℕ) (c : CoreState) (last : ℕ) where
  -- what is done by the content that the next read finds
  abbrev p_read : Part
  p_read s = by (content_now (s.contents path)) (at_content path s)

  abbrev Found : Contents → Type 0
  Found g = (s : Scene) → by (content_now (g path)) s ≡ p s

  module _ (ts : List ℕ) (g g' : Contents) (taken : (q : List ℕ) → g' q ≡ contents_after path g q) (found : Found g) where
    read_is : (xs : List Exit) → p_read (expecting xs (at c last ts g)) ≡ p (expecting xs (at c last ts g'))
    read_is xs = (λ i. by (content_now (g path)) (expecting xs (at c last ts (λ q. sym (taken q) i)))) ∙ found (expecting xs (at c last ts g'))

    read_does : (u : Scene) (a b : Outside) → Does p (at c last ts g') u a b → Does p_read (at c last ts g) u a b
    read_does u a b x = record { outputs = x.outputs; goes = λ more. read_is (exits x.outputs ++ more) ∙ x.goes more; did = x.did }

    read_stops : (z : Stop) (a b : Outside) → Stops z p (at c last ts g') a b → Stops z p_read (at c last ts g) a b
    read_stops z a b x = record {
      stops = record { outputs = x.stops.outputs; stopped = x.stops.stopped; goes = ap (λ (w : Turn). w.outputs) (read_is (exits x.stops.stopped.done)) ∙ x.stops.goes };
      limit = λ is. let u = x.limit is in record { outputs = u.outputs; goes = read_is (exits u.outputs) ∙ u.goes; did = u.did };
    }

  from_read : (rs : Option (List ℕ)) (f f' : Option Contents) (u : Option Scene) (a b : Outside) → TakesContent f path f' → IfSome f Found → DoesFrom p (scene_of c last rs f') u a b → DoesFrom p_read (scene_of c last rs f) u a b
  from_read None f f' u a b taken found x = tt
  from_read (Some ts) None f' u a b taken found x = tt
  from_read (Some ts) (Some g) None u a b taken found x = absurd taken
  from_read (Some ts) (Some g) (Some g') None a b taken found x = absurd x
  from_read (Some ts) (Some g) (Some g') (Some u) a b taken found x = read_does ts g g' taken found u a b x

  from_read_stops : (z : Stop) (rs : Option (List ℕ)) (f f' : Option Contents) (a b : Outside) → TakesContent f path f' → IfSome f Found → StopsFrom z p (scene_of c last rs f') a b → StopsFrom z p_read (scene_of c last rs f) a b
  from_read_stops z None f f' a b taken found x = tt
  from_read_stops z (Some ts) None f' a b taken found x = tt
  from_read_stops z (Some ts) (Some g) None a b taken found x = absurd taken
  from_read_stops z (Some ts) (Some g) (Some g') a b taken found x = read_stops ts g g' taken found z a b x

  -- a read, and then what is done for it
  pub plays_read : {T : Type 0} (rs : Option (List ℕ)) (f f' : Option Contents) (e : Outside) (n : Moment) (result : Result T Stop) → TakesContent f path f' → IfSome f Found →
      Plays p (record { scene = scene_of c last rs f'; outside = e }) n result → Plays p_read (record { scene = scene_of c last rs f; outside = e }) n result
  plays_read rs f f' e n (Ok x) taken found y = from_read rs f f' n.scene e n.outside taken found y
  plays_read rs f f' e n (Err z) taken found y = from_read_stops z rs f f' e n.outside taken found y

-- ---- what a read of a watched file finds

module _ (counting : Counting) (index : ℕ) (name path : List ℕ) where
  no_file : (o : Option (List ℕ)) → IsReadOf o 65536 file.Missing → (s : Scene) → content_found counting index name o s ≡ faulty name (Some watch.Missing) s
  no_file None read s = refl
  no_file (Some content) read s = absurd read

  a_file : (v : Vec ℕ) (o : Option (List ℕ)) → IsReadOf o 65536 (file.Found v) → (s : Scene) → content_found counting index name o s ≡ text_found counting index name (text_read v.items) s
  a_file v None read s = absurd read
  a_file v (Some content) read s = ap (λ (l : List ℕ). text_found counting index name (text_read l) s) (sym read)

  -- there is no file
  pub missing_found : (f : Option Contents) (x : FileRead) → x ≡ file.Missing → IfSome f (λ g. IsReadOf (content_now (g path)) 65536 x) →
      IfSome f (λ g. (s : Scene) → content_found counting index name (content_now (g path)) s ≡ faulty name (Some watch.Missing) s)
  missing_found None x is read = tt
  missing_found (Some g) x is read = no_file (content_now (g path)) (subst (λ (y : FileRead). IsReadOf (content_now (g path)) 65536 y) is read)

  -- there is one
  pub bytes_found : (f : Option Contents) (x : FileRead) (v : Vec ℕ) → x ≡ file.Found v → IfSome f (λ g. IsReadOf (content_now (g path)) 65536 x) →
      IfSome f (λ g. (s : Scene) → content_found counting index name (content_now (g path)) s ≡ text_found counting index name (text_read v.items) s)
  bytes_found None x v is read = tt
  bytes_found (Some g) x v is read = a_file v (content_now (g path)) (subst (λ (y : FileRead). IsReadOf (content_now (g path)) 65536 y) is read)
