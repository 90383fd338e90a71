-- What a request asks of the log's model.
use Rattle.std.specs.Prelude.{◌<◌, ◌+◌, ◌^◌, ℕ, ⊤}
use Rattle.std.specs.Option.{option_map}
use Rattle.fenced.specs.Engine.{Tail as Said}
use Rattle.fenced.specs.Requests.{Request as Asked, Ask as ask, Drop as drop_older, Fresh as fresh, Place as place, Put as put, Read as read, Take as take}
use Rattle.etcd_text.specs.declared.tail.Tail.{Tail}
use Rattle.etcd_text.specs.declared.request.Request.{Request}
use Rattle.etcd_text.specs.declared.request.Request.TheVariants.{Ask, DropOlder, Fresh, Place, Put, Read, Take}
use Rattle.etcd_text.specs.Tails.{said_by}

abbrev pub asked_by : Request → Asked
asked_by (Take seen owner) = take (option_map said_by seen) owner.now
asked_by (Put tail bytes) = put (said_by tail) bytes.now
asked_by (Fresh tail generation number bytes) = fresh (said_by tail) generation number bytes.now
asked_by (Place tail generation count) = place (said_by tail) generation count
asked_by (DropOlder tail) = drop_older (said_by tail)
asked_by Ask = ask
asked_by (Read generation number) = read generation number

-- the number of the next piece has 64 bits
abbrev pub HasRoom : Request → Type 0
HasRoom (Put tail bytes) = tail.count + 1 < 2 ^ 64
HasRoom _ = ⊤
