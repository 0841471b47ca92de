-- What is said where a server is asked for.
use Rattle.std.specs.Prelude.{◌≡◌, ℕ, List, true, false, None, Ok, Err}
use Rattle.rb_trees.specs.declared.services.Object.{Object}
use Rattle.rb_trees.specs.declared.services.Service as service
use Rattle.rb_trees.specs.mirror.Services.{mirror_service}
use Rattle.rb_meaning.specs.Shown.{shown_table}
use Rattle.rb_base.specs.Devices.{Device}
use Rattle.rb_base.specs.Directories.{Finds, read_once}
use Rattle.rb_exec.specs.Hosted.{Hosted}
use Rattle.rb_top.specs.Ends.{Ends}
use Rattle.rb_top.specs.Manners.{host_manner}
use Rattle.rb_top.specs.Scene.{Scene}
use Rattle.rb_top.specs.Sessions.{Listener, Starts, ServesSessions, listen_line}
use Rattle.rb_top.specs.Texts.{IsService}
use Rattle.rb_top.specs.Unusable.{TellsNoService}
use Rattle.rb_top.specs.Words.{Serving}
use Rattle.rb_top.specs.declared.sessions.SessionsStop.TheVariants.{Said}
use Rattle.rb_top.specs.declared.status.Status.{Status}
use Rattle.rb_top.specs.declared.status.Status.TheVariants.{Done, ListenFault, Memory}

-- the server of a service with a table
abbrev pub host_on : service.Service → List Object → Hosted
host_on s table = record { service = s; table = table }

-- A server over a host serves so many sessions at most. Where it serves them all, or none comes any more, the table is printed that
-- they left; else what was to be said was said.
pub data ServesHost (host : Hosted) (count : ℕ) (result : Status) (listen after_it : Listener) (before after : Device (List ℕ)) : Type 0 where
  to_end : (left : Hosted) (said : Device (List ℕ)) → ServesSessions host_manner host left count listen after_it before said (Ok tt)
      → Ends Done (shown_table 0 left.table) result said after → ServesHost host count result listen after_it before after
  to_stop : (left : Hosted) → ServesSessions host_manner host left count listen after_it before after (Err (Said result))
      → ServesHost host count result listen after_it before after

-- The server of this service, with this table, listens at an address, and serves so many sessions at most; or it can't listen there,
-- and that was said.
pub data Listens (host : Hosted) (address : List ℕ) (count : ℕ) (result : Status) (listen after_it : Listener) (before after : Device (List ℕ)) : Type 0 where
  begins : (begun : Listener) → Starts address true listen begun → ServesHost host count result begun after_it before after
      → Listens host address count result listen after_it before after
  not_started : Starts address false listen after_it → Ends ListenFault listen_line result before after → Listens host address count result listen after_it before after
  starved_at_start : result ≡ Memory → after_it ≡ listen → after ≡ before → Listens host address count result listen after_it before after

-- The service in the file was read, and its server listens; or it was said why there is no service.
pub data ServesAs (v : Serving) (result : Status) (listen after_it : Listener) (before after : Scene) : Type 0 where
  no_service : TellsNoService v.service result before after → after_it ≡ listen → ServesAs v result listen after_it before after
  listens : (text : List ℕ) (s : service.Service) (table : List Object) → Finds before.files.told v.service text → IsService text (mirror_service s, table)
      → Listens (host_on s table) v.address v.count result listen after_it before.out after.out → after.files ≡ read_once before.files
      → ServesAs v result listen after_it before after

-- an output that keeps nothing and never fails
abbrev pub nothing_kept : Device (List ℕ)
nothing_kept = record { told = None; faults = 0 }

-- the scene with such an output in the place of its own
abbrev pub unheard : Scene → Scene
unheard s = record s { out = nothing_kept }

-- The same, but nothing is printed.
pub record ServesUnheard (v : Serving) (result : Status) (listen after_it : Listener) (before after : Scene) : Type 0 where
  pub serves : ServesAs v result listen after_it (unheard before) (unheard after)
  pub unchanged : after.out ≡ before.out
