-- How much a network may have, in numbers: this project's choice, but for those that are said to be a standard's.
use Rattle.std.specs.Prelude.{◌≡◌}
use Rattle.sw_topo.specs.declared.limits.TheConstants.{FIRST_LOGICAL, LAST_LOGICAL, MAX_NODES, MAX_SWITCHES, MAX_LINKS, MAX_CHANNELS, MAX_FLOWS, MAX_WAYS, MAX_ADDRESS, MAX_REPLY_PATH, PORTS, MAX_PORT, MIN_BUFFER, MAX_BUFFER, MEMORY_END, MAX_NUMBER, MAX_PLACES}

-- 1,024 nodes, 512 switches, 1,024 links with 2,048 channels, 4,096 flows with as many of replies, each with at most 32 address bytes, and so at most
-- 67,584 places of a flow: each channel with 0 to 32 deleted bytes; the number of a channel is read up to 65,535, whether or not there is such a channel
--
-- logical addresses 32 to 254, and 32 ports of a switch, 0 to 31 (ECSS-E-ST-50-12C, network layer: packet addressing, routing switches); receive buffers of 8
-- to 4,096 characters, so at least of as many as one FCT asks for (ECSS-E-ST-50-12C, data link layer: flow control); replies that go by at most 12 path
-- addresses, and memory addresses of 40 bits, so below 1,099,511,627,776 (ECSS-E-ST-50-52C, the reply address field and the fields of a command)
pub record AreTheLimits : Type 0 where
  pub nodes : MAX_NODES ≡ 1024
  pub switches : MAX_SWITCHES ≡ 512
  pub links : MAX_LINKS ≡ 1024
  pub channels : MAX_CHANNELS ≡ 2048
  pub flows : MAX_FLOWS ≡ 4096
  pub ways : MAX_WAYS ≡ 8192
  pub address : MAX_ADDRESS ≡ 32
  pub first_logical : FIRST_LOGICAL ≡ 32
  pub last_logical : LAST_LOGICAL ≡ 254
  pub reply_path : MAX_REPLY_PATH ≡ 12
  pub ports : PORTS ≡ 32
  pub last_port : MAX_PORT ≡ 31
  pub least_buffer : MIN_BUFFER ≡ 8
  pub most_buffer : MAX_BUFFER ≡ 4096
  pub memory_end : MEMORY_END ≡ 1099511627776
  pub number : MAX_NUMBER ≡ 65535
  pub places : MAX_PLACES ≡ 67584
